use Rattle.std.proofs.Common.{◌≡◌, true, false, codes, ap}
use Rattle.std.specs.Str.{bytes_eq}
use Rattle.qs_spec.specs.Segment.Segment.{Int, Str}
use Rattle.qs_spec.specs.Leaf.Leaf.{Text}
use Rattle.qs_standards.specs.Worked.{named}
use Rattle.qs_standards.proofs.OnBoth.{one_held}
use Rattle.qs_standards.proofs.examples.not_held.Goals as goal

pub returns-clause-other_value : goal.returns-clause-other_value
returns-clause-other_value c = λ h. let e : true ≡ false = ap (bytes_eq (codes "1")) (one_held (named (codes "a") (codes "1")) (Str (codes "a")) false (Text (codes "2") false) h).1 in cc

pub returns-clause-other_name : goal.returns-clause-other_name
returns-clause-other_name c = λ h. let e : true ≡ false = ap (bytes_eq (codes "a")) (one_held (named (codes "a") (codes "1")) (Str (codes "b")) false (Text (codes "1") false) h).0 in cc

pub returns-clause-other_number : goal.returns-clause-other_number
returns-clause-other_number c = λ h. let e = (one_held (named (codes "1") (codes "x")) (Int 2) false (Text (codes "x") false) h).0.1 in cc
