use Rattle.std.proofs.Common.{◌≡◌, ◌-◌, ◌≤◌, length, take, drop}
use Rattle.std.specs.Io.KnownBytes.{Appends}
use Rattle.qs_serde.proofs.calls.write.put.Given as goal

abbrev pub invariant-loop-rest : goal.invariant-loop-rest
invariant-loop-rest g l = record {
  left : length l.rest ≤ length l.bytes;
  rest_is : l.rest ≡ drop (length l.bytes - length l.rest) l.bytes;
  taken : Appends (g.W.Write.contents l.fn.writer) (g.W.Write.contents l.writer) (take (length l.bytes - length l.rest) l.bytes);
  same : l.made ≡ l.fn.made;
}

abbrev pub decreases-loop-rest : goal.decreases-loop-rest
decreases-loop-rest g l = length l.rest
