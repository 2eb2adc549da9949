use Rattle.std.proofs.Common.{◌≡◌, ◌+◌, ◌≤◌, drop}
use Rattle.qs_c.specs.Limits.{ampersands}
use Rattle.qs_c.proofs.limits.count_ampersands.Given as goal

abbrev pub invariant-loop-byte : goal.invariant-loop-byte
invariant-loop-byte l = (l.count + ampersands (drop l.byte-index l.input) ≡ ampersands l.input) × (l.count ≤ l.byte-index)
