use Rattle.std.proofs.Common.{◌≡◌, true, false, ◌&&◌, refl, sym, ap, ◌∙◌}
use Rattle.std.specs.Option.{option_and_then, option_map}
use Rattle.std.specs.Str.{bytes_eq, is_utf8}
use Rattle.qs_spec.specs.Shape.{variants_of}
use Rattle.qs_tree.specs.tree.Views.{tree_of}
use Rattle.qs_data.specs.read.Held.{held_is_text}
use Rattle.qs_data.proofs.lemmas.read.Errors.{and_right, gives_exit}
use Rattle.serde_qs.specs.Held.{kind_held, variant_held}
use Rattle.serde_qs.specs.Records.{texts}
use Rattle.serde_qs.specs.declared.compound.variants.OneOf.TheVariants.{First, Later}
use Rattle.serde_qs.proofs.NodeVariants.{first_here, first_other}
use Rattle.serde_qs.proofs.compound.variants.OneOfVariants.from_name.Goals as goal

pub returns-in_err-from_node : goal.returns-in_err-from_node
returns-in_err-from_node g c =
    let t = g.V.Payload.table in
    let r = g.R.Variants.table in
    let reject_duplicates = c.args.reader.reject_duplicates in
    let name = c.args.name.now in
    let o = option_map (λ v. tree_of v.now) c.args.held in
    let own = c.split.result.0.now in
    let rest = texts c.split.result.1.now in
    let same : bytes_eq own name ≡ true = ap (λ x. bytes_eq x name) (sym c.as_bytes.ensures.value) ∙ sym c.if-eq.ensures in
    gives_exit _ (held_is_text o) (is_utf8 name && held_is_text o) c.from_residual.result c.in_err-from_node.field-0.0 (option_and_then (t.meaning rest) (kind_held reject_duplicates (t.shape rest) own o)) _
    c.from_residual.ensures.1 (c.in_err-from_node.ensures own)
    (λ none. first_here t.meaning t.shape reject_duplicates (texts c.args.names.now) name o own rest c.split.ensures.first c.split.ensures.others t.after r.shape r.meaning (t.after rest) refl same ∙ ap (option_map First) none)
    (and_right (is_utf8 name) (held_is_text o))

pub returns-in_ok-from_node : goal.returns-in_ok-from_node
returns-in_ok-from_node g c =
    let t = g.V.Payload.table in
    let r = g.R.Variants.table in
    let reject_duplicates = c.args.reader.reject_duplicates in
    let name = c.args.name.now in
    let o = option_map (λ v. tree_of v.now) c.args.held in
    let own = c.split.result.0.now in
    let rest = texts c.split.result.1.now in
    let same : bytes_eq own name ≡ true = ap (λ x. bytes_eq x name) (sym c.as_bytes.ensures.value) ∙ sym c.if-eq.ensures in
    first_here t.meaning t.shape reject_duplicates (texts c.args.names.now) name o own rest c.split.ensures.first c.split.ensures.others t.after r.shape r.meaning (t.after rest) refl same
    ∙ ap (option_map First) (c.in_ok-from_node.ensures own)

pub returns-in_err-from_name : goal.returns-in_err-from_name
returns-in_err-from_name g c =
    let t = g.V.Payload.table in
    let r = g.R.Variants.table in
    let reject_duplicates = c.args.reader.reject_duplicates in
    let name = c.args.name.now in
    let o = option_map (λ v. tree_of v.now) c.args.held in
    let own = c.split.result.0.now in
    let rest = texts c.split.result.1.now in
    let more = texts c.skip.result.now in
    let text = is_utf8 name && held_is_text o in
    let other : bytes_eq own name ≡ false = ap (λ x. bytes_eq x name) (sym c.as_bytes.ensures.value) ∙ sym c.if-eq.ensures in
    gives_exit _ text text c.from_residual-in_err-from_name.result c.in_err-from_name.field-0.0 (option_and_then (r.meaning more) (variant_held reject_duplicates (variants_of (r.shape more)) name o)) _
    c.from_residual-in_err-from_name.ensures.1 c.in_err-from_name.ensures
    (λ none. first_other t.meaning t.shape reject_duplicates (texts c.args.names.now) name o own rest c.split.ensures.first c.split.ensures.others t.after r.shape r.meaning more c.skip.ensures other ∙ ap (option_map Later) none) (λ f. f)

pub returns-in_ok-from_name : goal.returns-in_ok-from_name
returns-in_ok-from_name g c =
    let t = g.V.Payload.table in
    let r = g.R.Variants.table in
    let reject_duplicates = c.args.reader.reject_duplicates in
    let name = c.args.name.now in
    let o = option_map (λ v. tree_of v.now) c.args.held in
    let own = c.split.result.0.now in
    let rest = texts c.split.result.1.now in
    let other : bytes_eq own name ≡ false = ap (λ x. bytes_eq x name) (sym c.as_bytes.ensures.value) ∙ sym c.if-eq.ensures in
    first_other t.meaning t.shape reject_duplicates (texts c.args.names.now) name o own rest c.split.ensures.first c.split.ensures.others t.after r.shape r.meaning (texts c.skip.result.now) c.skip.ensures other
    ∙ ap (option_map Later) c.in_ok-from_name.ensures
