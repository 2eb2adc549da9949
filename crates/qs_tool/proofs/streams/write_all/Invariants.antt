use Rattle.std.proofs.Common.{◌≡◌, ◌-◌, ◌≤◌, length, take, drop}
use Rattle.std.specs.Io.KnownBytes.{Appends}
use Rattle.qs_tool.proofs.streams.write_all.Given as goal

-- the rest follows what was taken
abbrev pub invariant-loop-rest : goal.invariant-loop-rest
invariant-loop-rest g l = record {
  left : length l.rest ≤ length l.bytes;
  rest_is : l.rest ≡ drop (length l.bytes - length l.rest) l.bytes;
  taken : Appends (g.W.Write.contents l.fn.output.writer) (g.W.Write.contents l.output.writer) (take (length l.bytes - length l.rest) l.bytes);
}

abbrev pub decreases-loop-rest : goal.decreases-loop-rest
decreases-loop-rest g l = length l.rest
