-- What both compute of an input is what they read.
use Rattle.std.proofs.Common.{◌≡◌, ℕ, Bool, true, false, List, [], ◌∷◌, Some, refl, sym, ap, ◌∙◌, subst}
use Rattle.std.specs.List.{AllByRecursion}
use Rattle.qs_spec.specs.Segment.{Segment}
use Rattle.qs_spec.specs.Leaf.{Leaf, leaf_text}
use Rattle.qs_spec.specs.Tree.Tree.{leaf}
use Rattle.qs_spec.specs.Tree.Entries.{entry, no_entries}
use Rattle.qs_spec.proofs.Permuted.{Perm-from, perm_all}
use Rattle.qs_spec.specs.Tree.{Tree}
use Rattle.qs_spec.proofs.TreeOf.{tree_of, is_tree}
use Rattle.qs_standards.specs.FormUrlencoded.{NameValue, form_parsed}
use Rattle.qs_standards.specs.Named.{HasName, AreEntries, HoldsNamed}
use Rattle.qs_standards.specs.Worked.{one_leaf, ReadsBoth}

pub reads_both : (input : List ℕ) (ns : List NameValue) (t : Tree) → form_parsed input ≡ ns → tree_of false 0 input ≡ Some t → tree_of true 0 input ≡ Some t → ReadsBoth input ns t
reads_both input ns t e f g = record { parsed = e; in_query_mode = is_tree false 0 input t f; in_form_mode = is_tree true 0 input t g }

-- what a map of one leaf holds
pub one_held : (n : NameValue) (key : Segment) (escaped : Bool) (l : Leaf) → HoldsNamed (n ∷ []) (one_leaf key escaped l) → HasName n.name key × (n.value ≡ leaf_text l)
one_held n key escaped l h = by h.0 (perm_all (λ m. m ≡ n) (Perm-from (n ∷ []) h.0 h.1) (refl, tt)) h.2
  where
    by : (sorted : List NameValue) → AllByRecursion (λ m. m ≡ n) sorted → AreEntries sorted (entry key escaped (leaf l) no_entries) → HasName n.name key × (n.value ≡ leaf_text l)
    by [] e a = absurd a
    by (m ∷ ms) e a = (subst (λ (x : NameValue). HasName x.name key) e.0 a.0, sym (ap (λ (x : NameValue). x.value) e.0) ∙ a.1)
