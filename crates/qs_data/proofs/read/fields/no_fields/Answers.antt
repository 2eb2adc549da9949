use Rattle.qs_data.proofs.Common.{None, Shape, is_text, no_fields, tree_of}
use Rattle.qs_spec.specs.Shape.{UnknownKeys}
use Rattle.qs_data.specs.failure.Own.{IsOwn}
use Rattle.qs_data.proofs.lemmas.failure.Failures.{here_fails, here_rejects}
use Rattle.qs_data.proofs.lemmas.failure.Kinds.{fields_key}
use Rattle.qs_data.proofs.read.fields.no_fields.Goals as goal

pub returns-clause-gives : goal.returns-clause-gives
returns-clause-gives c =
    let n = tree_of c.args.value.now in
    here_rejects (is_text n) (Shape.struct UnknownKeys.ignored no_fields) n c.struct_error-error.result c.at_struct.result None
    (c.at_struct.ensures UnknownKeys.ignored no_fields (fields_key UnknownKeys.ignored no_fields n c.requires)) c.struct_error-error.ensures

pub returns-clause-fails : goal.returns-clause-fails
returns-clause-fails c = λ u fs.
    let n = tree_of c.args.value.now in
    here_fails c.args.reader.reject_duplicates (Shape.struct u fs) n c.struct_error-error.result c.at_struct.result (c.at_struct.ensures u fs (fields_key u fs n c.requires)) (IsOwn.no_struct c.requires)
