use Rattle.std.proofs.Common.{◌≡◌, Some, ap, sym, ◌∙◌}
use Rattle.std.specs.Option.{option_and_then, option_map}
use Rattle.qs_spec.specs.Node.{as_map}
use Rattle.qs_tree.specs.tree.Views.{tree_of}
use Rattle.qs_data.specs.read.Held.{held_is_text}
use Rattle.qs_data.specs.read.Keys.{unknown_of}
use Rattle.qs_data.specs.read.TreeText.{is_text}
use Rattle.qs_data.specs.read.Narrowed.{error_of}
use Rattle.qs_data.proofs.lemmas.read.Errors.{gives_exit}
use Rattle.serde_qs.specs.internal.NodeParts.{members_read}
use Rattle.serde_qs.specs.Records.{texts}
use Rattle.serde_qs.proofs.NodeVariants.{struct_held}
use Rattle.serde_qs.proofs.compound.structs.AnyPayload.from_node.Goals as goal

pub returns-in_err-fields_of_variant : goal.returns-in_err-fields_of_variant
returns-in_err-fields_of_variant g c = λ name.
    let t = g.S.Held.Fields.table in
    let reject_duplicates = c.args.reader.reject_duplicates in
    let fs = t.shape (texts c.args.names.now) in
    let m = t.meaning (texts c.args.names.now) in
    let o = option_map (λ v. tree_of v.now) c.args.held in
    let n = tree_of c.in_ok-node.node.now in
    let here : o ≡ Some n = c.in_ok-node.ensures in
    gives_exit _ (is_text n) (held_is_text o) c.from_residual-in_err-fields_of_variant.result (error_of c.in_err-fields_of_variant.field-0.0) (members_read (unknown_of c.unknown.result) reject_duplicates fs m (as_map n)) _
    c.from_residual-in_err-fields_of_variant.ensures.1 c.in_err-fields_of_variant.ensures
    (λ none. struct_held m g.S.HoldsFields.unknown reject_duplicates fs name o ∙ ap (option_and_then (λ x. members_read g.S.HoldsFields.unknown reject_duplicates fs m (as_map x))) here
    ∙ ap (λ u. members_read u reject_duplicates fs m (as_map n)) (sym c.unknown.ensures) ∙ none) (λ f. ap held_is_text here ∙ f)

pub returns : goal.returns
returns g c = λ name.
    let t = g.S.Held.Fields.table in
    let reject_duplicates = c.args.reader.reject_duplicates in
    let fs = t.shape (texts c.args.names.now) in
    let m = t.meaning (texts c.args.names.now) in
    let o = option_map (λ v. tree_of v.now) c.args.held in
    let n = tree_of c.in_ok-node.node.now in
    struct_held m g.S.HoldsFields.unknown reject_duplicates fs name o ∙ ap (option_and_then (λ x. members_read g.S.HoldsFields.unknown reject_duplicates fs m (as_map x))) c.in_ok-node.ensures
    ∙ ap (λ u. members_read u reject_duplicates fs m (as_map n)) (sym c.unknown.ensures) ∙ c.in_ok-fields_of_variant.ensures ∙ ap (λ x. Some (t.value x)) (sym c.holding.ensures)
