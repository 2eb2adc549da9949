-- The entries of a sorted vector are in the order of their keys.
use Rattle.qs_tree.proofs.Common.{◌≡◌, List, [], ◌∷◌, Less, sym, ◌∙◌, AllByRecursion, IsStrictlySortedBy, keys_of, Tree, Key, key_cmp, segment_of_key, IsBefore, AreOrdered}
use Rattle.qs_tree.proofs.lemmas.tree.Keys.{seen_view, key_cmp-segments}

module _ {X : Type 0} (seen : X → Tree) where
  before_all : (k : Key) (es : List (Key × X)) → AllByRecursion (λ y. key_cmp k y ≡ Less) (keys_of es) → IsBefore (segment_of_key k) (seen_view seen es)
  before_all k [] h = tt
  before_all k (e ∷ es) h = (sym (key_cmp-segments k e.0) ∙ h.0, before_all k es h.1)

  pub ordered_seen : (es : List (Key × X)) → IsStrictlySortedBy key_cmp (keys_of es) → AreOrdered (seen_view seen es)
  unfolding IsStrictlySortedBy
  ordered_seen [] h = tt
  ordered_seen (e ∷ es) h = (before_all e.0 es h.0, ordered_seen es h.1)
