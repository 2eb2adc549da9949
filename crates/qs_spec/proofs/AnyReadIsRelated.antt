-- What is read as anything is related.
use Rattle.std.proofs.Common.{◌≡◌, ℕ, Bool, true, false, cond, ◌+◌, [], ◌∷◌, Some, None, refl, sym, ap, subst}
use Rattle.std.specs.Option.{option_map, option_and_then}
use Rattle.std.proofs.lemmas.Option.{none-some, same_Some}
use Rattle.qs_spec.specs.Segment.{segment_text}
use Rattle.qs_spec.specs.Leaf.Leaf.{NoValue, Null, Text}
use Rattle.qs_spec.specs.Tree.{Tree, Items, Entries}
use Rattle.qs_spec.specs.Tree.Tree.{leaf, sequence, mapping, uninitialized}
use Rattle.qs_spec.specs.Tree.Items.{item, no_items}
use Rattle.qs_spec.specs.Tree.Entries.{entry, no_entries}
use Rattle.qs_spec.specs.Data.{Data, Values, no_values, one_value, Pairs, no_pairs, one_pair}
use Rattle.qs_spec.specs.Shape.{Shape, KeyShape}
use Rattle.qs_spec.specs.Scalar.{text_data}
use Rattle.qs_spec.specs.Node.{are_ints, is_place, placed, sequence_items}
use Rattle.qs_spec.specs.internal.ReadFunction.{any_data, any_items, any_places, any_pairs}
use Rattle.qs_spec.specs.Relation.{Reads, ReadsEach, ReadsPairs}
use Rattle.qs_spec.proofs.SomeAnswers.{mapped, chained, guarded}
use Rattle.qs_spec.proofs.DataReadIsRelated.{text_related}

-- a map by what is related of its items and of its pairs
any_map_related : (reject_duplicates : Bool) (es : Entries) (d : Data) → ((ds : Values) → any_places 0 es ≡ Some ds → ReadsEach reject_duplicates Shape.any (placed 0 es) ds) → ((ps : Pairs) → any_pairs es ≡ Some ps → ReadsPairs reject_duplicates KeyShape.text Shape.any es ps)
    → (b : Bool) → are_ints es ≡ b → cond b (option_map Data.sequence (any_places 0 es)) (option_map Data.mapping (any_pairs es)) ≡ Some d → Reads reject_duplicates Shape.any (mapping es) d
any_map_related reject_duplicates es d places pairs true i e =
    let m = mapped Data.sequence (any_places 0 es) d e in
    subst (Reads reject_duplicates Shape.any (mapping es)) m.2 (Reads.any_places i (Reads.sequence (ap (λ b. cond b (Some (placed 0 es)) None) i) (places m.0 m.1)))
any_map_related reject_duplicates es d places pairs false i e =
    let m = mapped Data.mapping (any_pairs es) d e in
    subst (Reads reject_duplicates Shape.any (mapping es)) m.2 (Reads.any_map i (Reads.map (pairs m.0 m.1)))

mutual
  unfolding any_data any_items any_places any_pairs

  pub any_related : (reject_duplicates : Bool) (n : Tree) (d : Data) → any_data n ≡ Some d → Reads reject_duplicates Shape.any n d
  any_related reject_duplicates (leaf NoValue) d e = subst (Reads reject_duplicates Shape.any (leaf NoValue)) (same_Some Data.unit d e) Reads.any_no_value
  any_related reject_duplicates (leaf Null) d e = subst (Reads reject_duplicates Shape.any (leaf Null)) (same_Some (Data.text []) d e) Reads.any_null
  any_related reject_duplicates (leaf (Text t m)) d e = let r = text_related t d e in subst (Reads reject_duplicates Shape.any (leaf (Text t m))) r.1 (Reads.any_text r.0)
  any_related reject_duplicates (sequence xs) d e =
      let m = mapped Data.sequence (any_items xs) d e in
      subst (Reads reject_duplicates Shape.any (sequence xs)) m.2 (Reads.any_sequence (Reads.sequence refl (any_items_related reject_duplicates xs m.0 m.1)))
  any_related reject_duplicates (mapping es) d e = any_map_related reject_duplicates es d (λ ds f. any_places_related reject_duplicates 0 es ds f) (λ ps f. any_pairs_related reject_duplicates es ps f) (are_ints es) refl e
  any_related reject_duplicates uninitialized d e = absurd (none-some d e)

  any_items_related : (reject_duplicates : Bool) (xs : Items) (ds : Values) → any_items xs ≡ Some ds → ReadsEach reject_duplicates Shape.any (sequence_items xs) ds
  any_items_related reject_duplicates no_items ds e = subst (ReadsEach reject_duplicates Shape.any []) (same_Some no_values ds e) ReadsEach.each_end
  any_items_related reject_duplicates (item t xs) ds e =
      let c = chained (λ d. option_map (one_value d) (any_items xs)) (any_data t) ds e in
      let m = mapped (one_value c.0) (any_items xs) ds c.2 in
      subst (ReadsEach reject_duplicates Shape.any (Some t ∷ sequence_items xs)) m.2 (ReadsEach.each_item (any_related reject_duplicates t c.0 c.1) (any_items_related reject_duplicates xs m.0 m.1))

  any_places_related : (reject_duplicates : Bool) (i : ℕ) (es : Entries) (ds : Values) → any_places i es ≡ Some ds → ReadsEach reject_duplicates Shape.any (placed i es) ds
  any_places_related reject_duplicates i no_entries ds e = subst (ReadsEach reject_duplicates Shape.any []) (same_Some no_values ds e) ReadsEach.each_end
  any_places_related reject_duplicates i (entry k escaped t es) ds e =
      let g = guarded (is_place i k) (option_and_then (λ d. option_map (one_value d) (any_places (i + 1) es)) (any_data t)) ds e in
      let c = chained (λ d. option_map (one_value d) (any_places (i + 1) es)) (any_data t) ds g.1 in
      let m = mapped (one_value c.0) (any_places (i + 1) es) ds c.2 in
      subst (λ b. ReadsEach reject_duplicates Shape.any (cond b (Some t) None ∷ placed (i + 1) es) ds) (sym g.0)
      (subst (ReadsEach reject_duplicates Shape.any (Some t ∷ placed (i + 1) es)) m.2 (ReadsEach.each_item (any_related reject_duplicates t c.0 c.1) (any_places_related reject_duplicates (i + 1) es m.0 m.1)))

  any_pairs_related : (reject_duplicates : Bool) (es : Entries) (ps : Pairs) → any_pairs es ≡ Some ps → ReadsPairs reject_duplicates KeyShape.text Shape.any es ps
  any_pairs_related reject_duplicates no_entries ps e = subst (ReadsPairs reject_duplicates KeyShape.text Shape.any no_entries) (same_Some no_pairs ps e) ReadsPairs.pairs_end
  any_pairs_related reject_duplicates (entry k escaped t es) ps e =
      let a = chained (λ a. option_and_then (λ d. option_map (one_pair a d) (any_pairs es)) (any_data t)) (text_data (segment_text k)) ps e in
      let d = chained (λ d. option_map (one_pair a.0 d) (any_pairs es)) (any_data t) ps a.2 in
      let m = mapped (one_pair a.0 d.0) (any_pairs es) ps d.2 in
      subst (ReadsPairs reject_duplicates KeyShape.text Shape.any (entry k escaped t es)) m.2 (ReadsPairs.pairs_more a.1 (any_related reject_duplicates t d.0 d.1) (any_pairs_related reject_duplicates es m.0 m.1))
