use Rattle.std.proofs.Common.{◌≡◌, ◌++◌, drop, List, Some}
use Rattle.qs_spec.specs.Config.{are_rejected}
use Rattle.qs_spec.specs.Shape as s
use Rattle.qs_spec.specs.Tree.{Tree}
use Rattle.qs_data.specs.failure.Parts.{field_keys}
use Rattle.qs_data.specs.read.Keys.{entries_view}
use Rattle.qs_data.specs.shape.Views.{fields_in}
use Rattle.qs_explain.specs.Fields.{OfFields}
use Rattle.qs_explain.specs.declared.explanation.Explanation.{Explanation}
use Rattle.qs_explain.proofs.fields.among.Given as goal

-- the explanations so far, with those of the fields that are left, are those of all fields
abbrev pub invariant-loop-field : goal.invariant-loop-field
invariant-loop-field l =
    let rd = are_rejected l.config.duplicates in
    let es = entries_view l.entries in
    let fs = fields_in l.fields.items in
    (u : s.UnknownKeys) (n : Tree) (xs : List Explanation) → field_keys n ≡ Some es
    → OfFields rd (s.Shape.struct u fs) n es (fields_in (drop l.field-index l.field-items)) xs → OfFields rd (s.Shape.struct u fs) n es fs (l.all.items ++ xs)
