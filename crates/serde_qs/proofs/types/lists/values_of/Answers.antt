use Rattle.std.proofs.Common.{◌≡◌, ◌+◌, ◌++◌, ◌∷◌, [], Option, Some, None, map, drop, sym, ap, ◌∙◌, true, arith}
use Rattle.std.proofs.lemmas.Grind.{common_steps}
use Rattle.std.specs.Option.{option_and_then, option_map}
use Rattle.std.specs.declared.vec.Vec.{Vec}
use Rattle.std.specs.declared.alloc.Global.{Global}
use Rattle.std.proofs.lemmas.Bool.{false≢true}
use Rattle.qs_spec.specs.Tree.{Tree}
use Rattle.qs_spec.specs.internal.ReadFunction.{reads}
use Rattle.qs_tree.specs.tree.Views.{tree_of}
use Rattle.qs_data.specs.read.TreeText.{is_text}
use Rattle.qs_data.specs.read.Items.{are_text, first_item, items_view}
use Rattle.qs_data.proofs.lemmas.read.Errors.{gives_exit}
use Rattle.qs_data.proofs.lemmas.read.Items.{due_bad}
use Rattle.serde_qs.specs.internal.NodeParts.{each_value}
use Rattle.serde_qs.proofs.NodeItems.{value_all, value_end, value_more, value_rejected, value_unread}
use Rattle.qs_data.proofs.lemmas.read.Steps.{before}
use Rattle.serde_qs.proofs.types.lists.values_of.Goals as goal
use Rattle.serde_qs.proofs.types.lists.values_of.Goals.{else-loop-i-test, then-loop-i-test+in_ok-item+in_default}

pub returns-in_err-item : goal.returns-in_err-item
returns-in_err-item g c =
    let l = c.loop-i in
    let xs = items_view c.args.items in
    let r : Tree → Option g.T.Deserialize.table.Value = λ t. option_and_then g.T.Deserialize.table.meaning (reads c.args.reader.reject_duplicates g.T.Deserialize.table.shape t) in
    gives_exit (λ (ys : Vec g.row.T.Denot Global). map g.T.Deserialize.table.value ys.items) true (are_text xs) c.from_residual-in_err-item.result c.in_err-item.field-0.0 (first_item (drop l.i xs)) (each_value r xs)
    c.from_residual-in_err-item.ensures.1 c.in_err-item.ensures (λ none. l.invariant ∙ value_rejected r xs l.i (map g.T.Deserialize.table.value l.values.items) none) (λ f. absurd (false≢true (sym f)))

pub returns-in_err-from_node : goal.returns-in_err-from_node
returns-in_err-from_node g c =
    let l = c.loop-i in
    let xs = items_view c.args.items in
    let n = tree_of c.in-Some.item.now in
    let r : Tree → Option g.T.Deserialize.table.Value = λ t. option_and_then g.T.Deserialize.table.meaning (reads c.args.reader.reject_duplicates g.T.Deserialize.table.shape t) in
    let h : first_item (drop l.i xs) ≡ Some (Some n) = c.in_ok-item.ensures ∙ ap (λ o. Some (option_map (λ v. tree_of v.now) o)) c.in-Some.is in
    gives_exit (λ (ys : Vec g.row.T.Denot Global). map g.T.Deserialize.table.value ys.items) (is_text n) (are_text xs) c.from_residual-in_err-from_node.result c.in_err-from_node.field-0.0 (r n) (each_value r xs)
    c.from_residual-in_err-from_node.ensures.1 c.in_err-from_node.ensures.node (λ none. l.invariant ∙ value_unread r xs l.i (map g.T.Deserialize.table.value l.values.items) n h none) (due_bad l.i xs n h)

pub loop-i-preserved : goal.loop-i-preserved
loop-i-preserved g c =
    let l = c.loop-i in
    let xs = items_view c.args.items in
    let n = tree_of c.in-Some.item.now in
    let r : Tree → Option g.T.Deserialize.table.Value = λ t. option_and_then g.T.Deserialize.table.meaning (reads c.args.reader.reject_duplicates g.T.Deserialize.table.shape t) in
    let ws = map g.T.Deserialize.table.value l.values.items in
    let v = g.T.Deserialize.table.value c.in_ok-from_node.field-0 in
    let h : first_item (drop l.i xs) ≡ Some (Some n) = c.in_ok-item.ensures ∙ ap (λ o. Some (option_map (λ v. tree_of v.now) o)) c.in-Some.is in
    let pushed : map g.T.Deserialize.table.value c.push.new.self.items ≡ ws ++ v ∷ [] = grind (arith, common_steps) in
    l.invariant ∙ value_more r xs l.i ws n v h c.in_ok-from_node.ensures.node ∙ ap (λ ys. before ys (each_value r (drop (l.i + 1) xs))) (sym pushed)

pub returns : goal.returns
returns g c =
    let l = c.loop-i in
    let xs = items_view c.args.items in
    let r : Tree → Option g.T.Deserialize.table.Value = λ t. option_and_then g.T.Deserialize.table.meaning (reads c.args.reader.reject_duplicates g.T.Deserialize.table.shape t) in
    let ws = map g.T.Deserialize.table.value l.values.items in
    elim c.loop-i-test.branch [
      | else-loop-i-test w ↦ l.invariant ∙ value_all r xs l.i ws (omega (arith, c.len-i-end.ensures, w.loop-i-test.false))
      | then-loop-i-test+in_ok-item+in_default w ↦
          let h : first_item (drop l.i xs) ≡ Some None = w.in_ok-item.ensures ∙ ap (λ o. Some (option_map (λ v. tree_of v.now) o)) w.in_default.is in
          l.invariant ∙ value_end r xs l.i ws h
    ]
