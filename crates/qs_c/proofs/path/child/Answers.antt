use Rattle.std.proofs.Common.{◌≡◌, sym, ap, subst, ◌∙◌, rules}
use Rattle.std.specs.Slice.{IsItemAt}
use Rattle.qs_spec.specs.Tree.Tree.{sequence}
use Rattle.qs_tree.specs.tree.Views.{tree_of, items_of, segment_of_key}
use Rattle.qs_tree.specs.declared.tree.value.ParsedValue.{ParsedValue, the_lemmas}
use Rattle.qs_c.specs.Paths.{child}
use Rattle.qs_c.proofs.Paths.{sequence_child, no_text_child, no_child}
use Rattle.qs_c.proofs.path.child.Goals as goal

pub returns-in_ok-index_of-in-Sequence : goal.returns-in_ok-index_of-in-Sequence
returns-in_ok-index_of-in-Sequence c =
    let k = segment_of_key c.args.key.now in
    let i = c.in_ok-index_of-in-Sequence.field-0 in
    let seen : tree_of c.args.node.now ≡ sequence (items_of c.in-Sequence.items.items) = ap tree_of c.in-Sequence.is ∙ search (rules, the_lemmas) in
    sequence_child k i c.in-Sequence.items.items c.get-in-Sequence.result (sym c.in_ok-index_of-in-Sequence.ensures)
    (subst (λ ts. IsItemAt ts i c.get-in-Sequence.result) c.deref.ensures.value c.get-in-Sequence.ensures.lookup)
    ∙ sym (ap (child k) seen)

pub returns-else-branch-eq0 : goal.returns-else-branch-eq0
returns-else-branch-eq0 c =
    let k = segment_of_key c.args.key.now in
    let none = no_text_child k c.in-String.field-0 c.in_ok-index_of-in-String.field-0 (sym c.in_ok-index_of-in-String.ensures) c.if-branch-eq0.false in
    sym (ap (λ (n : ParsedValue). child k (tree_of n)) c.in-String.is ∙ none)

pub returns-in-NoValue : goal.returns-in-NoValue
returns-in-NoValue c = sym (no_child (segment_of_key c.args.key.now) c.args.node.now c.in-NoValue.is)
