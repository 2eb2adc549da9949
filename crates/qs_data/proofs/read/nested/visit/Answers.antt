use Rattle.qs_data.proofs.Common.{◌≡◌, ap, sym, ◌∙◌, map, cond, Some, None, rules, sequence, mapping, items, sequence_items, placed, tree_of, items_from, entries_of_map}
use Rattle.qs_tree.specs.declared.tree.value.ParsedValue as value
use Rattle.qs_data.proofs.lemmas.read.Anything.{is_list}
use Rattle.qs_data.proofs.lemmas.read.Nesting.{begins_list, begins_map}
use Rattle.qs_data.proofs.read.nested.visit.Goals as goal

pub returns-in-Sequence : goal.returns-in-Sequence
returns-in-Sequence c =
    let n = tree_of c.args.value.now in
    let xs = sequence_items (items_from (map tree_of c.deref.result.now)) in
    let seen : n ≡ sequence (items_from (map tree_of c.in-Sequence.values.items)) = ap tree_of c.in-Sequence.is ∙ search (rules, value.the_lemmas) in
    let listed : items n ≡ Some xs = ap items seen ∙ ap (λ zs. Some (sequence_items (items_from (map tree_of zs)))) (sym c.deref.ensures.value) in
    begins_list c.list.result n xs (ap is_list seen) listed c.list.ensures.value c.list.ensures.text c.list.ensures.size

pub returns-then-is_list : goal.returns-then-is_list
returns-then-is_list c =
    let n = tree_of c.args.value.now in
    let es = entries_of_map c.in-Map.map in
    let seen : n ≡ mapping es = ap tree_of c.in-Map.is ∙ search (rules, value.the_lemmas) in
    let listed : items n ≡ Some (placed 0 es) = ap items seen ∙ ap (λ b. cond b (Some (placed 0 es)) None) (sym c.are_integers-is_list.ensures ∙ c.if-is_list.true) in
    let l = c.list-then-is_list in
    begins_list l.result n (placed 0 es) (ap is_list seen) listed l.ensures.value l.ensures.text l.ensures.size

pub returns-else-is_list : goal.returns-else-is_list
returns-else-is_list c =
    let n = tree_of c.args.value.now in
    let es = entries_of_map c.in-Map.map in
    let seen : n ≡ mapping es = ap tree_of c.in-Map.is ∙ search (rules, value.the_lemmas) in
    begins_map c.map.result n es seen (sym c.are_integers-is_list.ensures ∙ c.if-is_list.false) c.map.ensures.value c.map.ensures.text c.map.ensures.size
