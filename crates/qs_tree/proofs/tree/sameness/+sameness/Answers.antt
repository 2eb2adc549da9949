use Rattle.qs_tree.proofs.Common.{◌≡◌, ◌&&◌, true, false, sym, ap, ap₂, ◌∙◌, is_same_segment, tree_same, segment_of_key, tree_of}
use Rattle.qs_tree.proofs.lemmas.tree.Equality.{key_eq-segments}
use Rattle.qs_tree.proofs.lemmas.tree.Nodes.{node_with}
use Rattle.qs_tree.proofs.lemmas.tree.Lengths.{other_entries}
use Rattle.qs_tree.proofs.tree.sameness.+sameness.Goals as goal

pub same_entries-returns-then-left-right : goal.same_entries-returns-then-left-right
same_entries-returns-then-left-right t c = sym (other_entries c.args.left.now c.args.right.now c.if-left-right.true)

pub same_nodes-returns-in-Map-Map : goal.same_nodes-returns-in-Map-Map
same_nodes-returns-in-Map-Map t c =
    let maps = c.in-Map-Map in
    c.same_entries.ensures ∙ sym (ap₂ tree_same (node_with _ maps.left _ maps.is-0 c.as_slice.ensures.all) (node_with _ maps.right _ maps.is-1 c.as_slice-in-Map-Map.ensures.all))

pub same_entry-returns-then-eq : goal.same_entry-returns-then-eq
same_entry-returns-then-eq t c =
    let e = c.args.left.now in
    let o = c.args.right.now in
    let keys : is_same_segment (segment_of_key e.0) (segment_of_key o.0) ≡ true = sym (key_eq-segments e.0 o.0) ∙ sym c.eq.ensures ∙ c.if-eq.true in
    c.same_nodes.ensures ∙ sym (ap (λ b. b && tree_same (tree_of e.1) (tree_of o.1)) keys)

pub same_entry-returns-else-eq : goal.same_entry-returns-else-eq
same_entry-returns-else-eq t c =
    let e = c.args.left.now in
    let o = c.args.right.now in
    let keys : is_same_segment (segment_of_key e.0) (segment_of_key o.0) ≡ false = sym (key_eq-segments e.0 o.0) ∙ sym c.eq.ensures ∙ c.if-eq.false in
    c.if-eq.false ∙ sym (ap (λ b. b && tree_same (tree_of e.1) (tree_of o.1)) keys)
