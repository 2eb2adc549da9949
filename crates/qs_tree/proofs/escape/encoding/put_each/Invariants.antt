use Rattle.qs_tree.proofs.Common.{◌≡◌, ◌+◌, ◌++◌, length, take, encoded}
use Rattle.qs_tree.proofs.escape.encoding.put_each.Given as goal

abbrev pub invariant-loop-rest : goal.invariant-loop-rest
invariant-loop-rest l = record {
  text : take l.at l.room ++ encoded l.is_form l.rest ≡ take l.begin l.initial.room ++ encoded l.is_form l.bytes;
  end : l.at + length (encoded l.is_form l.rest) ≡ l.begin + length (encoded l.is_form l.bytes);
}

abbrev pub decreases-loop-rest : goal.decreases-loop-rest
decreases-loop-rest l = length l.rest
