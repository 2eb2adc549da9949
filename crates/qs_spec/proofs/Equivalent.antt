-- Inputs with reordered pairs have the same tree, ignoring escapes, or both have none; as many leaves as pairs, and how deep maps nest.
use Rattle.std.proofs.Common.{◌≡◌, ℕ, ◌+◌, ◌≤◌, Bool, true, List, [], ◌∷◌, ◌++◌, length, refl, sym, ap, ◌∙◌, arith}
use Rattle.std.proofs.lemmas.Option.{same_Some}
use Rattle.qs_spec.specs.Segment.{Segment}
use Rattle.qs_spec.specs.Token.{tokens}
use Rattle.qs_spec.specs.Grammar.{Pair, ArePairs}
use Rattle.qs_spec.specs.Tree.{node, longest, Tree, IsTree}
use Rattle.qs_spec.specs.History.{events, permitted}
use Rattle.qs_spec.specs.Permutation.{IsReordering}
use Rattle.qs_spec.specs.Order.{overlap, AreReordered, AreEquivalent, ignoring_escapes}
use Rattle.qs_spec.specs.Holds.{leaf_count, nesting}
use Rattle.qs_spec.proofs.RelatedIsParsed.{one_list, found_pairs}
use Rattle.qs_spec.proofs.Reorder.{node_reordered, permitted_reordered}
use Rattle.qs_spec.proofs.Places.{by_places}
use Rattle.qs_spec.proofs.IgnoringEscapes.{ignoring, permitted_ignoring, node_ignoring}
use Rattle.qs_spec.proofs.Leaves.{nesting_within, pairs_short}
use Rattle.qs_spec.proofs.LeafCount.{leaves_of_node}
use Rattle.qs_spec.proofs.Empty.{none_empty}

-- an input with a pair has a tree where its pairs have one, and that one
of_pairs : (is_form : Bool) (depth : ℕ) (a : List ℕ) (p : Pair) (ps : List Pair) → ArePairs depth (tokens is_form a) (p ∷ ps) → ((path : List Segment) → permitted (events (p ∷ ps) path) ≡ true) → IsTree is_form depth a (node (p ∷ ps))
of_pairs is_form depth [] p ps g h = let e = same_Some [] (p ∷ ps) (found_pairs g) in cc
of_pairs is_form depth (b ∷ a) p ps g h = (p ∷ ps, record { grammar = g; histories = h }, refl)

to_pairs : (is_form : Bool) (depth : ℕ) (a : List ℕ) (p : Pair) (ps : List Pair) (t : Tree) → ArePairs depth (tokens is_form a) (p ∷ ps) → IsTree is_form depth a t → ((path : List Segment) → permitted (events (p ∷ ps) path) ≡ true) × (t ≡ node (p ∷ ps))
to_pairs is_form depth [] p ps t g h = let e = same_Some [] (p ∷ ps) (found_pairs g) in cc
to_pairs is_form depth (b ∷ a) p ps t g h =
    let same : h.0 ≡ p ∷ ps = one_list depth (tokens is_form (b ∷ a)) h.0 (p ∷ ps) h.1.grammar g in
    (λ path. ap (λ qs. permitted (events qs path)) (sym same) ∙ h.1.histories path, h.2 ∙ ap node same)

-- inputs whose pairs have the same histories and, ignoring escapes, the same node have the same tree, ignoring escapes
equivalent_by : (is_form : Bool) (depth : ℕ) (a b : List ℕ) (p q : Pair) (ps qs : List Pair) → ArePairs depth (tokens is_form a) (p ∷ ps) → ArePairs depth (tokens is_form b) (q ∷ qs)
    → ((path : List Segment) → permitted (events (p ∷ ps) path) ≡ permitted (events (q ∷ qs) path)) → ignoring_escapes (node (p ∷ ps)) ≡ ignoring_escapes (node (q ∷ qs)) → AreEquivalent is_form depth a b
equivalent_by is_form depth a b p q ps qs g i same nodes = record {
  there = λ t d. let of = to_pairs is_form depth a p ps t g d in
      (node (q ∷ qs), of_pairs is_form depth b q qs i (λ path. sym (same path) ∙ of.0 path), sym nodes ∙ ap ignoring_escapes (sym of.1));
  back = λ u d. let of = to_pairs is_form depth b q qs u i d in
      (node (p ∷ ps), of_pairs is_form depth a p ps g (λ path. same path ∙ of.0 path), nodes ∙ ap ignoring_escapes (sym of.1));
}

no_order_of_none : (p : Pair) (ps : List Pair) → IsReordering overlap (p ∷ ps) [] → ⊥
no_order_of_none p ps h = by h.0 h.2
  where
    by : (front : List Pair) → [] ≡ front ++ p ∷ h.1 → ⊥
    by [] e = cc
    by (q ∷ front) e = cc

pub equivalent : (is_form : Bool) (depth : ℕ) (a b : List ℕ) (p : Pair) (ps qs : List Pair) → ArePairs depth (tokens is_form a) (p ∷ ps) → ArePairs depth (tokens is_form b) qs → IsReordering overlap (ignoring (p ∷ ps)) (ignoring qs) → AreEquivalent is_form depth a b
equivalent is_form depth a b p ps [] g i h = absurd (no_order_of_none _ (ignoring ps) h)
equivalent is_form depth a b p ps (q ∷ qs) g i h = equivalent_by is_form depth a b p q ps qs g i
    (λ path. sym (permitted_ignoring (p ∷ ps) path) ∙ permitted_reordered (ignoring (p ∷ ps)) (ignoring (q ∷ qs)) h path ∙ permitted_ignoring (q ∷ qs) path)
    (sym (node_ignoring (p ∷ ps)) ∙ node_reordered (ignoring (p ∷ ps)) (ignoring (q ∷ qs)) h ∙ node_ignoring (q ∷ qs))

-- the same by indices
pub equivalent_by_places : (is_form : Bool) (depth : ℕ) (a b : List ℕ) (p : Pair) (ps qs : List Pair) → ArePairs depth (tokens is_form a) (p ∷ ps) → ArePairs depth (tokens is_form b) qs → AreReordered (p ∷ ps) qs → AreEquivalent is_form depth a b
equivalent_by_places is_form depth a b p ps qs g i h = equivalent is_form depth a b p ps qs g i (by_places overlap (ignoring (p ∷ ps)) (ignoring qs) h)

pub leaves : (is_form : Bool) (depth b : ℕ) (bytes : List ℕ) (ps : List Pair) (t : Tree) → ArePairs depth (tokens is_form (b ∷ bytes)) ps → IsTree is_form depth (b ∷ bytes) t → leaf_count t ≡ length ps
leaves is_form depth b bytes ps t g h = ap leaf_count h.2 ∙ leaves_of_node h.0 (none_empty is_form depth (b ∷ bytes) h.0 h.1.grammar) h.1.histories ∙ ap length (one_list depth (tokens is_form (b ∷ bytes)) h.0 ps h.1.grammar g)

pub nests : (is_form : Bool) (depth : ℕ) (bytes : List ℕ) (t : Tree) → IsTree is_form depth bytes t → nesting t ≤ depth + 2
nests is_form depth [] t h = omega (arith, ap nesting h)
nests is_form depth (b ∷ bytes) t h = omega (arith, ap nesting h.2, nesting_within (longest h.0) h.0, pairs_short h.1.grammar)
