use Rattle.std.proofs.Common.{map, string_bytes, length}
use Rattle.qs_tool.proofs.Options.{Goes}
use Rattle.qs_tool.proofs.arguments.options.Given as goal

abbrev pub invariant-loop-rest : goal.invariant-loop-rest
invariant-loop-rest l = Goes (map string_bytes l.words) l.settings (map string_bytes l.rest)

abbrev pub decreases-loop-rest : goal.decreases-loop-rest
decreases-loop-rest l = length l.rest
