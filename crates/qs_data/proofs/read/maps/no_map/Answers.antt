use Rattle.qs_data.proofs.Common.{KeyShape, Shape, tree_of}
use Rattle.qs_data.specs.failure.Own.{IsOwn}
use Rattle.qs_data.proofs.lemmas.failure.Failures.{here_custom, here_fails}
use Rattle.qs_data.proofs.lemmas.failure.Kinds.{entries_key}
use Rattle.qs_data.proofs.read.maps.no_map.Goals as goal

pub returns-clause-custom : goal.returns-clause-custom
returns-clause-custom c =
    let n = tree_of c.args.value.now in
    here_custom (Shape.mapping KeyShape.text Shape.unit) n c.mismatch-error.result c.at_map.result (c.at_map.ensures KeyShape.text Shape.unit (entries_key KeyShape.text Shape.unit n c.requires)) c.mismatch-error.ensures

pub returns-clause-fails : goal.returns-clause-fails
returns-clause-fails c = λ key part.
    let n = tree_of c.args.value.now in
    here_fails c.args.reader.reject_duplicates (Shape.mapping key part) n c.mismatch-error.result c.at_map.result (c.at_map.ensures key part (entries_key key part n c.requires)) (IsOwn.no_map c.requires)
