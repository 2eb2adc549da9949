use Rattle.qs_data.proofs.Common.{◌≡◌, false, cond, Some, None, ap, sym, ◌∙◌, rules, string_bytes, is_utf8, unit_kind, is_unit_kind, data_of, kind_of}
use Rattle.qs_spec.specs.Data as d
use Rattle.qs_data.specs.declared.data.data.Data as data_type
use Rattle.qs_data.specs.declared.shape.shape.VariantKind as kind
use Rattle.qs_data.specs.declared.shape.shape.Variant.{out-Variant}
use Rattle.qs_data.proofs.lemmas.read.ReadErrors.{custom}
use Rattle.qs_data.proofs.lemmas.read.Variants.{named_is, unit_at}
use Rattle.qs_data.proofs.read.variants.read_name.Goals as goal
use Rattle.qs_data.proofs.read.variants.read_name.Goals.{in-Newtype, in-Tuple, in-Struct, in-StrictStruct}

pub returns-in-Unit : goal.returns-in-Unit
returns-in-Unit c =
    let b = c.args.name.now in
    let vs = c.args.variants.now in
    let v = c.index-variants-place.result in
    let here = named_is b vs c.in_ok-place.place v c.in_ok-place.ensures.named c.in_ok-place.ensures.place c.index-variants-place.is in
    let name = c.in_ok-clone-in-Unit.field-0 in
    let unit : kind_of (out-Variant v).kind ≡ unit_kind = ap kind_of c.in-Unit.is ∙ search (rules, kind.the_lemmas) in
    let seen : data_of (data_type.UnitVariant name) ≡ d.unit_variant (string_bytes name) = search (rules, data_type.the_lemmas) in
    let copied : string_bytes name ≡ string_bytes (out-Variant v).name = c.in_ok-clone-in-Unit.ensures.cases in
    unit_at b vs v here ∙ ap (λ k. cond (is_unit_kind k) (Some (d.unit_variant (string_bytes (out-Variant v).name))) None) unit
    ∙ ap (λ n. Some (d.unit_variant n)) (sym copied) ∙ ap Some (sym seen)

pub returns : goal.returns
returns c =
    let b = c.args.name.now in
    let vs = c.args.variants.now in
    let v = c.index-variants-place.result in
    let here = named_is b vs c.in_ok-place.place v c.in_ok-place.ensures.named c.in_ok-place.ensures.place c.index-variants-place.is in
    let other : is_unit_kind (kind_of (out-Variant v).kind) ≡ false = elim c.match-variant.branch [
      | in-Newtype w ↦ ap (λ k. is_unit_kind (kind_of k)) w.in-Newtype.is ∙ search (rules, kind.the_lemmas)
      | in-Tuple w ↦ ap (λ k. is_unit_kind (kind_of k)) w.in-Tuple.is ∙ search (rules, kind.the_lemmas)
      | in-Struct w ↦ ap (λ k. is_unit_kind (kind_of k)) w.in-Struct.is ∙ search (rules, kind.the_lemmas)
      | in-StrictStruct w ↦ ap (λ k. is_unit_kind (kind_of k)) w.in-StrictStruct.is ∙ search (rules, kind.the_lemmas)
    ] in
    custom (is_utf8 b) c.error.result _ c.error.ensures
    (unit_at b vs v here ∙ ap (λ k. cond k (Some (d.unit_variant (string_bytes (out-Variant v).name))) None) other)
