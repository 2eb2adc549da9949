-- Two trees are equal exactly if they are the same, ignoring escapes, so equality is an equivalence.
use Rattle.std.proofs.Common.{◌≡◌, Bool, false, ◌&&◌, refl, sym, ap, ap₂, ◌∙◌}
use Rattle.std.specs.Bool.{Decides, one_answer}
use Rattle.std.specs.Cmp.{IsPartialEquivalence}
use Rattle.std.proofs.lemmas.Slice.Eq.{bytes_eq-Decides}
use Rattle.qs_spec.specs.Segment.{is_same_segment}
use Rattle.qs_spec.specs.Leaf.{Leaf, NoValue, Null, Text}
use Rattle.qs_spec.specs.Tree.{Tree, Items, Entries, leaf, sequence, mapping, uninitialized, no_items, item, no_entries, entry}
use Rattle.qs_spec.specs.Order.{ignoring_escapes, items_ignoring_escapes, entries_ignoring_escapes, leaf_ignoring_escapes}
use Rattle.qs_spec.proofs.Booleans.{and_both}
use Rattle.qs_spec.proofs.Order.{is_itself}
use Rattle.qs_spec.proofs.TreeOf.{same_segment}
use Rattle.qs_tree.specs.tree.Equality.{leaf_same, tree_same, items_same, entries_same}

-- equal trees are the same, ignoring escapes, and conversely
same_leaves : (l o : Leaf) → Decides (leaf_same l o) (leaf_ignoring_escapes l ≡ leaf_ignoring_escapes o)
same_leaves NoValue NoValue = (λ _. refl, λ _. refl)
same_leaves Null Null = (λ _. refl, λ _. refl)
same_leaves (Text b m) (Text c n) = (λ e. ap (λ x. Text x false) ((bytes_eq-Decides b c).0 e), λ e. (bytes_eq-Decides b c).1 (cc))
same_leaves l o = (λ e. cc, λ e. cc)

mutual
  pub same_trees : (t u : Tree) → Decides (tree_same t u) (ignoring_escapes t ≡ ignoring_escapes u)
  same_trees (leaf l) (leaf o) = (λ e. ap leaf ((same_leaves l o).0 e), λ e. (same_leaves l o).1 (cc))
  same_trees (sequence xs) (sequence ys) = (λ e. ap sequence ((same_items xs ys).0 e), λ e. (same_items xs ys).1 (cc))
  same_trees (mapping es) (mapping fs) = (λ e. ap mapping ((same_entries es fs).0 e), λ e. (same_entries es fs).1 (cc))
  same_trees uninitialized uninitialized = (λ _. refl, λ _. refl)
  same_trees t u = (λ e. cc, λ e. cc)

  same_items : (xs ys : Items) → Decides (items_same xs ys) (items_ignoring_escapes xs ≡ items_ignoring_escapes ys)
  same_items no_items no_items = (λ _. refl, λ _. refl)
  same_items (item t xs) (item u ys) = (
    λ e. let parts = and_both (tree_same t u) (items_same xs ys) e in ap₂ item ((same_trees t u).0 parts.0) ((same_items xs ys).0 parts.1),
    λ e. rw ((same_trees t u).1 (cc), (same_items xs ys).1 (cc)),
  )
  same_items xs ys = (λ e. cc, λ e. cc)

  same_entries : (es fs : Entries) → Decides (entries_same es fs) (entries_ignoring_escapes es ≡ entries_ignoring_escapes fs)
  same_entries no_entries no_entries = (λ _. refl, λ _. refl)
  same_entries (entry k m t es) (entry l n u fs) = (
    λ e.
        let parts = and_both (is_same_segment k l && tree_same t u) (entries_same es fs) e in
        let here = and_both (is_same_segment k l) (tree_same t u) parts.0 in
        let key = same_segment k l here.0 in
        let node = (same_trees t u).0 here.1 in
        let rest = (same_entries es fs).0 parts.1 in
        cc,
    λ e.
        let key : k ≡ l = cc in
        rw (ap (is_same_segment k) (sym key) ∙ is_itself k, (same_trees t u).1 (cc), (same_entries es fs).1 (cc)),
  )
  same_entries es fs = (λ e. cc, λ e. cc)

-- a test that decides equality after a change
module _ {K J : Type 0} (change : K → J) (test : K → K → Bool) (decides : (x y : K) → Decides (test x y) (change x ≡ change y)) where
  equality : IsPartialEquivalence test
  equality = record {
    symm = λ x y. one_answer (test x y) (test y x) (decides x y) (λ e. sym ((decides y x).0 e), λ e. (decides y x).1 (sym e));
    trans = λ x y z e f. (decides x z).1 ((decides x y).0 e ∙ (decides y z).0 f);
  }

pub trees_per : IsPartialEquivalence tree_same
trees_per = equality ignoring_escapes tree_same same_trees

pub entries_per : IsPartialEquivalence entries_same
entries_per = equality entries_ignoring_escapes entries_same same_entries
