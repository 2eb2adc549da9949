use Rattle.std.proofs.Common.{◌++◌, ℕ, List, drop}
use Rattle.qs_c.specs.Explained.{AreLines}
use Rattle.qs_c.proofs.fields.lines_of.Given as goal

-- the lines so far, with those of the explanations that are left, are those of all
abbrev pub invariant-loop-explanation : goal.invariant-loop-explanation
invariant-loop-explanation l = (rest : List ℕ) → AreLines (drop l.explanation-index l.explanations) rest → AreLines l.explanations (l.text.items ++ rest)
