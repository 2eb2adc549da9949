use Rattle.std.specs.Io.KnownBytes.{Consumes}
use Rattle.qs_tool.proofs.streams.read_input.Given as goal

-- the bytes so far are what was taken
abbrev pub invariant-loop-count : goal.invariant-loop-count
invariant-loop-count g l = Consumes (g.R.Read.remaining l.fn.input.reader) (g.R.Read.remaining l.input.reader) l.bytes.items

abbrev pub decreases-loop-count : goal.decreases-loop-count
decreases-loop-count g l = l.input.reads_left
