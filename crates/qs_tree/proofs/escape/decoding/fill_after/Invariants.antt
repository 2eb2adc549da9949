use Rattle.qs_tree.proofs.Common.{◌≡◌, ◌+◌, ◌≤◌, ◌++◌, length, take, decoded}
use Rattle.qs_tree.proofs.escape.decoding.fill_after.Given as goal

abbrev pub invariant-loop-rest : goal.invariant-loop-rest
invariant-loop-rest l = record {
  text : take l.at l.room ++ decoded l.rest ≡ take l.begin l.fn.room ++ decoded l.bytes;
  room : l.at + length l.rest ≤ length l.room;
}

abbrev pub decreases-loop-rest : goal.decreases-loop-rest
decreases-loop-rest l = length l.rest
