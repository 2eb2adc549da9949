use Rattle.std.proofs.Common.{◌≡◌, Some, ap, ◌∙◌}
use Rattle.std.specs.Option.{option_and_then, option_map}
use Rattle.qs_spec.specs.internal.ReadFunction.{reads}
use Rattle.qs_tree.specs.tree.Views.{tree_of}
use Rattle.qs_data.specs.read.Held.{held_is_text}
use Rattle.qs_data.specs.read.TreeText.{is_text}
use Rattle.qs_data.proofs.lemmas.read.Errors.{gives_exit}
use Rattle.serde_qs.proofs.NodeVariants.{newtype_held}
use Rattle.serde_qs.proofs.compound.payloads.NewtypePayload.from_node.Goals as goal

pub returns-in_err-from_node : goal.returns-in_err-from_node
returns-in_err-from_node g c = λ name.
    let t = g.T.Deserialize.table in
    let reject_duplicates = c.args.reader.reject_duplicates in
    let o = option_map (λ v. tree_of v.now) c.args.held in
    let n = tree_of c.in_ok-node.node.now in
    let here : o ≡ Some n = c.in_ok-node.ensures in
    gives_exit _ (is_text n) (held_is_text o) c.from_residual-in_err-from_node.result c.in_err-from_node.field-0.0 (option_and_then t.meaning (reads reject_duplicates t.shape n)) _
    c.from_residual-in_err-from_node.ensures.1 c.in_err-from_node.ensures.node
    (λ none. newtype_held t.meaning reject_duplicates t.shape name o ∙ ap (option_and_then (λ x. option_and_then t.meaning (reads reject_duplicates t.shape x))) here ∙ none) (λ f. ap held_is_text here ∙ f)

pub returns : goal.returns
returns g c = λ name.
    let t = g.T.Deserialize.table in
    let reject_duplicates = c.args.reader.reject_duplicates in
    let o = option_map (λ v. tree_of v.now) c.args.held in
    newtype_held t.meaning reject_duplicates t.shape name o ∙ ap (option_and_then (λ x. option_and_then t.meaning (reads reject_duplicates t.shape x))) c.in_ok-node.ensures ∙ c.in_ok-from_node.ensures.node
