use Rattle.qs_data.proofs.Common.{None, ReadRejects, Shape, ap, data_of, is_utf8, subst, tree_of, unit_variant_data, variants_in, ◌∙◌, sym}
use Rattle.qs_data.specs.failure.Own.{IsOwn}
use Rattle.qs_data.specs.failure.internal.Failing.{IsHere}
use Rattle.qs_data.proofs.lemmas.failure.Failures.{here_rejects, rejected_here}
use Rattle.qs_data.proofs.lemmas.failure.Kinds.{text_is, text_key, unnamed_text}
use Rattle.qs_data.proofs.read.variants.read_text.Goals as goal

pub returns-in-Err-clause-gives : goal.returns-in-Err-clause-gives
returns-in-Err-clause-gives c =
    let n = tree_of c.args.value.now in
    let vs = variants_in c.args.variants.now.items in
    let s = Shape.enumeration vs in
    let name = c.args.name.now in
    let rejects = subst (λ ds. ReadRejects (is_utf8 name) c.in-Err.error (unit_variant_data (variants_in ds) name)) c.deref.ensures.value c.in-Err.ensures in
    here_rejects (is_utf8 name) s n c.in-Err.error c.at_enum.result (unit_variant_data vs name) (c.at_enum.ensures (text_key s n (text_is name n c.requires))) rejects

pub returns-in-Err-clause-fails : goal.returns-in-Err-clause-fails
returns-in-Err-clause-fails c =
    let n = tree_of c.args.value.now in
    let vs = variants_in c.args.variants.now.items in
    let s = Shape.enumeration vs in
    let name = c.args.name.now in
    let rejects = subst (λ ds. ReadRejects (is_utf8 name) c.in-Err.error (unit_variant_data (variants_in ds) name)) c.deref.ensures.value c.in-Err.ensures in
    rejected_here c.args.reader.reject_duplicates s n (is_utf8 name) c.in-Err.error (unit_variant_data vs name) c.at_enum.result (c.at_enum.ensures (text_key s n (text_is name n c.requires))) rejects
    (λ none. IsOwn.no_variant (unnamed_text vs name n c.requires none))

pub returns-in-Ok-clause-gives : goal.returns-in-Ok-clause-gives
returns-in-Ok-clause-gives c = ap (λ ds. unit_variant_data (variants_in ds) c.args.name.now) (sym c.deref.ensures.value) ∙ c.in-Ok.ensures
