use Rattle.std.proofs.Common.{◌≡◌, ◌≤◌, ◌<◌, ℕ, true}
use Rattle.std.specs.Prelude.{HoldsAt}
use Rattle.serde.specs.declared.name.Name.{Name}
use Rattle.qs_serde.proofs.reading.names.first_name.Given as goal

abbrev pub invariant-loop-at : goal.invariant-loop-at
invariant-loop-at l = (i : ℕ) → l.from ≤ i → i < l.at → HoldsAt (λ (n : Name). n.skipped ≡ true) l.names i
