-- Nothing is lost: a tree has as many leaves as there are pairs.
use Rattle.std.proofs.Common.{◌≡◌, ℕ, zero, suc, ◌≤◌, Bool, true, false, cond, List, [], length, map, refl, sym, ap, ◌∙◌, subst, le_refl}
use Rattle.std.specs.List.{list_any}
use Rattle.std.proofs.lemmas.List.{length-map}
use Rattle.qs_spec.specs.Segment.{Segment, is_same_segment}
use Rattle.qs_spec.specs.Segment.Segment.{Str}
use Rattle.qs_spec.specs.Grammar.{Pair}
use Rattle.qs_spec.specs.History.{event, events, is_below, is_push, under}
use Rattle.qs_spec.specs.Tree.{node_of_leaves, heads, filled, head_escaped, entries_of, node_within, node, longest, Tree}
use Rattle.qs_spec.specs.Holds.{leaf_count}
use Rattle.qs_spec.proofs.TreeOf.{longest_under, same_segment}
use Rattle.qs_spec.proofs.Leaves.{none_below, longer_filled, length_filled, counted, entries_counted, leaves_counted_all}
use Rattle.qs_spec.proofs.OneMore.{NoneEmpty, Permitted}
use Rattle.qs_spec.proofs.NodesOfLeaves.{begun, all_assign, assign_no_below}
use Rattle.qs_spec.proofs.Insert.{node_is_of_leaves, under_filled, none_empty_under, permitted_under}

abbrev Counts : ℕ → Type 0
Counts n = (ps : List Pair) → longest ps ≤ n → NoneEmpty ps → Permitted ps → leaf_count (node_within n ps) ≡ length ps

leaves_within : (n : ℕ) → Counts n
leaves_within zero ps l m p = leaves_counted_all (events ps []) (none_below ps l) ∙ length-map ps event
leaves_within (suc n) ps l m p = by (leaves_within n) (list_any is_below (events ps [])) refl
  where
    -- what stands under the empty text is no map
    own : list_any is_push (events ps []) ≡ false → leaf_count (node_within n (under (Str []) (filled ps))) ≡ length (under (Str []) (filled ps))
    own none =
        let low = assign_no_below (map event (under (Str []) (filled ps))) (all_assign ps m none) in
        ap leaf_count (node_is_of_leaves n (under (Str []) (filled ps)) low) ∙ leaves_counted_all (map event (under (Str []) (filled ps))) low ∙ length-map (under (Str []) (filled ps)) event

    at_key : Counts n → list_any is_push (events ps []) ≡ false → (k : Segment) (b : Bool) → is_same_segment (Str []) k ≡ b → leaf_count (node_within n (under k (filled ps))) ≡ length (under k (filled ps))
    at_key h none k true e = subst (λ (j : Segment). leaf_count (node_within n (under j (filled ps))) ≡ length (under j (filled ps))) (same_segment (Str []) k e) (own none)
    at_key h none k false e = subst (λ (qs : List Pair). leaf_count (node_within n qs) ≡ length qs) (sym (under_filled k ps e)) (h (under k ps) (longest_under k n ps l) (none_empty_under k ps m) (permitted_under ps k p))

    by : Counts n → (b : Bool) → list_any is_below (events ps []) ≡ b
        → leaf_count (cond b (Tree.mapping (entries_of (λ k. head_escaped k (filled ps)) (λ k. node_within n (under k (filled ps))) (heads (filled ps)))) (node_of_leaves (events ps []))) ≡ length ps
    by h true e =
        let none = (begun (events ps []) e (p [])).1 in
        entries_counted _ (λ k. node_within n (under k (filled ps))) (λ k. length (under k (filled ps))) (λ k. at_key h none k (is_same_segment (Str []) k) refl) (heads (filled ps))
        ∙ counted (filled ps) (longer_filled ps none) ∙ length_filled ps
    by h false e = leaves_counted_all (events ps []) e ∙ length-map ps event

pub leaves_of_node : (ps : List Pair) → NoneEmpty ps → Permitted ps → leaf_count (node ps) ≡ length ps
leaves_of_node ps = leaves_within (longest ps) ps (le_refl (longest ps))
