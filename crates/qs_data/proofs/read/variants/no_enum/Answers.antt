use Rattle.qs_data.proofs.Common.{Shape, tree_of, variants_in}
use Rattle.qs_data.specs.failure.Own.{IsOwn}
use Rattle.qs_data.proofs.lemmas.failure.Failures.{here_custom, here_fails}
use Rattle.qs_data.proofs.lemmas.failure.Kinds.{enum_key, unnamed}
use Rattle.qs_data.proofs.read.variants.no_enum.Goals as goal

pub returns-clause-custom : goal.returns-clause-custom
returns-clause-custom c =
    let n = tree_of c.args.value.now in
    let vs = variants_in c.args.variants.now.items in
    here_custom (Shape.enumeration vs) n c.mismatch-error.result c.at_enum.result (c.at_enum.ensures (enum_key vs n c.requires)) c.mismatch-error.ensures

pub returns-clause-fails : goal.returns-clause-fails
returns-clause-fails c =
    let n = tree_of c.args.value.now in
    let vs = variants_in c.args.variants.now.items in
    here_fails c.args.reader.reject_duplicates (Shape.enumeration vs) n c.mismatch-error.result c.at_enum.result (c.at_enum.ensures (enum_key vs n c.requires)) (IsOwn.no_variant (unnamed vs n c.requires))
