-- The function of reading reads exactly what is related.
use Rattle.std.proofs.Common.{◌≡◌, ℕ, Bool, true, false, cond, List, [], ◌∷◌, Option, Some, None, refl, sym, ◌∙◌, subst}
use Rattle.std.specs.Option.{option_map, option_and_then}
use Rattle.std.specs.Str.{bytes_eq}
use Rattle.std.proofs.lemmas.Option.{none-some, same_Some}
use Rattle.qs_spec.specs.Segment.{segment_text}
use Rattle.qs_spec.specs.Leaf.Leaf.{NoValue, Null, Text}
use Rattle.qs_spec.specs.Tree.{Tree, Items, Entries}
use Rattle.qs_spec.specs.Tree.Tree.{leaf, sequence, mapping, uninitialized}
use Rattle.qs_spec.specs.Tree.Entries.{entry, no_entries}
use Rattle.qs_spec.specs.Data.{Data, Values, values_of, pairs_of, members_of, Named}
use Rattle.qs_spec.specs.Shape.{Shape, Shapes, no_shapes, one_shape, Fields, no_fields, one_field, Variants, no_variants, one_variant, VariantKind, unit_kind, newtype_kind, tuple_kind, struct_kind, is_option, is_distinct}
use Rattle.qs_spec.specs.Scalar.{boolean_data, unsigned_data, signed_data, text_data}
use Rattle.qs_spec.specs.Node.{items, found, keys_are_allowed, as_map}
use Rattle.qs_spec.specs.internal.ReadFunction.{read_each, read_list, with_front, read_field, read_place, items_after, with_field, struct_members, read_map, read_enum, reads, reads_tuple, reads_names, reads_places, reads_variant, reads_kind}
use Rattle.qs_spec.specs.Relation.{HasVariant, Reads, ReadsFirst, ReadsNames, ReadsPlaces, ReadsVariant}
use Rattle.std.proofs.Common.{◌↔◌}
use Rattle.qs_spec.proofs.SomeAnswers.{mapped, chained}
use Rattle.qs_spec.proofs.VariantNames.{bytes_equal}
use Rattle.qs_spec.proofs.DataReadIsRelated.{text_related, scalar_related, unit_related, character_related, ignored_related, option_related, each_related, map_related, field_cut, name_related, place_related, struct_related, unit_variant_related}
use Rattle.qs_spec.proofs.AnyReadIsRelated.{any_related}
use Rattle.qs_spec.proofs.DataRelatedIsRead.{sound}

-- the variant of a name, as which a value is related
abbrev Variant : Bool → Variants → List ℕ → Tree → Data → Type 0
Variant reject_duplicates vs name t d = (k : VariantKind) × HasVariant name k vs × ReadsVariant reject_duplicates k name t d

first_variant : (reject_duplicates : Bool) (n name : List ℕ) (k : VariantKind) (vs : Variants) (t : Tree) (d : Data) → (reads_kind reject_duplicates k n t ≡ Some d → ReadsVariant reject_duplicates k n t d) → (reads_variant reject_duplicates vs name t ≡ Some d → Variant reject_duplicates vs name t d)
    → (b : Bool) → bytes_eq n name ≡ b → cond b (reads_kind reject_duplicates k n t) (reads_variant reject_duplicates vs name t) ≡ Some d → Variant reject_duplicates (one_variant n k vs) name t d
first_variant reject_duplicates n name k vs t d here later true f e = subst (λ (m : List ℕ). Variant reject_duplicates (one_variant n k vs) m t d) (bytes_equal n name f) (k, HasVariant.first, here e)
first_variant reject_duplicates n name k vs t d here later false f e = let r = later e in (r.0, HasVariant.later r.1, r.2)

enum_related : (reject_duplicates : Bool) (vs : Variants) (n : Tree) (d : Data) → ((name : List ℕ) (t : Tree) (d : Data) → reads_variant reject_duplicates vs name t ≡ Some d → Variant reject_duplicates vs name t d) → read_enum vs (reads_variant reject_duplicates vs) n ≡ Some d → Reads reject_duplicates (Shape.enumeration vs) n d
unfolding read_enum
enum_related reject_duplicates vs (leaf NoValue) d h e = absurd (none-some d e)
enum_related reject_duplicates vs (leaf Null) d h e = absurd (none-some d e)
enum_related reject_duplicates vs (leaf (Text t m)) d h e = let r = unit_variant_related vs t d e in subst (Reads reject_duplicates (Shape.enumeration vs) (leaf (Text t m))) r.1 (Reads.unit_variant r.0)
enum_related reject_duplicates vs (sequence xs) d h e = absurd (none-some d e)
enum_related reject_duplicates vs (mapping no_entries) d h e = absurd (none-some d e)
enum_related reject_duplicates vs (mapping (entry k escaped t es)) d h e = let r = h (segment_text k) t d e in Reads.variant r.1 r.2
enum_related reject_duplicates vs uninitialized d h e = absurd (none-some d e)

-- what was made of some items that were read
values_related : (reject_duplicates : Bool) (n : Tree) (d : Data) (of : Values → Data) (P : Data → Type 0) (read : List (Option Tree) → Option (List Data)) → ((xs : List (Option Tree)) (ds : List Data) → items n ≡ Some xs → read xs ≡ Some ds → P (of (values_of ds)))
    → option_map (λ ds. of (values_of ds)) (option_and_then read (items n)) ≡ Some d → P d
values_related reject_duplicates n d of P read h e =
    let m = mapped (λ ds. of (values_of ds)) (option_and_then read (items n)) d e in
    let c = chained read (items n) m.0 m.1 in
    subst P m.2 (h c.0 m.0 c.1 c.2)

mutual
  unfolding reads reads_tuple reads_names reads_places reads_variant reads_kind read_list

  pub related : (reject_duplicates : Bool) (s : Shape) (n : Tree) (d : Data) → reads reject_duplicates s n ≡ Some d → Reads reject_duplicates s n d
  related reject_duplicates Shape.unit n d e = unit_related reject_duplicates n d e
  related reject_duplicates Shape.boolean n d e = scalar_related reject_duplicates _ boolean_data (λ n. Reads reject_duplicates Shape.boolean n d) d
      (λ e. subst (Reads reject_duplicates Shape.boolean (leaf NoValue)) (same_Some (Data.boolean true) d e) Reads.boolean_no_value)
      (λ e. subst (Reads reject_duplicates Shape.boolean (leaf Null)) (same_Some (Data.boolean true) d e) Reads.boolean_null) (λ n t l r. Reads.boolean l r) n e
  related reject_duplicates (Shape.unsigned bits) n d e = scalar_related reject_duplicates _ (unsigned_data bits) (λ n. Reads reject_duplicates (Shape.unsigned bits) n d) d (λ e. absurd (none-some d e)) (λ e. absurd (none-some d e)) (λ n t l r. Reads.unsigned l r) n e
  related reject_duplicates (Shape.signed bits) n d e = scalar_related reject_duplicates _ (signed_data bits) (λ n. Reads reject_duplicates (Shape.signed bits) n d) d (λ e. absurd (none-some d e)) (λ e. absurd (none-some d e)) (λ n t l r. Reads.signed l r) n e
  related reject_duplicates Shape.character n d e = character_related reject_duplicates n d e
  related reject_duplicates Shape.text n d e = scalar_related reject_duplicates _ text_data (λ n. Reads reject_duplicates Shape.text n d) d
      (λ e. subst (Reads reject_duplicates Shape.text (leaf NoValue)) (same_Some (Data.text []) d e) Reads.text_no_value)
      (λ e. subst (Reads reject_duplicates Shape.text (leaf Null)) (same_Some (Data.text []) d e) Reads.text_null)
      (λ n t l r. let u = text_related t d r in subst (Reads reject_duplicates Shape.text n) u.1 (Reads.text l u.0)) n e
  related reject_duplicates Shape.bytes n d e = scalar_related reject_duplicates _ (λ t. Some (Data.bytes t)) (λ n. Reads reject_duplicates Shape.bytes n d) d
      (λ e. subst (Reads reject_duplicates Shape.bytes (leaf NoValue)) (same_Some (Data.bytes []) d e) Reads.bytes_no_value)
      (λ e. subst (Reads reject_duplicates Shape.bytes (leaf Null)) (same_Some (Data.bytes []) d e) Reads.bytes_null)
      (λ n t l r. subst (Reads reject_duplicates Shape.bytes n) (same_Some (Data.bytes t) d r) (Reads.bytes l)) n e
  related reject_duplicates (Shape.option s) n d e = option_related reject_duplicates s n d (λ n d f. related reject_duplicates s n d f) e
  related reject_duplicates (Shape.sequence s) n d e = values_related reject_duplicates n d Data.sequence (Reads reject_duplicates (Shape.sequence s) n) (read_each (reads reject_duplicates s)) (λ xs ds i f. Reads.sequence i (each_related reject_duplicates s (λ n d f. related reject_duplicates s n d f) xs ds f)) e
  related reject_duplicates (Shape.tuple ss) n d e = values_related reject_duplicates n d Data.tuple (Reads reject_duplicates (Shape.tuple ss) n) (reads_tuple reject_duplicates ss) (λ xs ds i f. Reads.tuple i (first_related reject_duplicates ss xs ds f)) e
  related reject_duplicates (Shape.mapping k s) n d e =
      let m = mapped (λ ps. Data.mapping (pairs_of ps)) (read_map k (reads reject_duplicates s) n) d e in
      subst (Reads reject_duplicates (Shape.mapping k s) n) m.2 (map_related reject_duplicates k s n m.0 (λ n d f. related reject_duplicates s n d f) m.1)
  related reject_duplicates (Shape.struct u fs) n d e =
      let m = mapped (λ ms. Data.struct (members_of ms)) (struct_members (keys_are_allowed u fs) (reads_names reject_duplicates fs) (reads_places reject_duplicates fs) n) d e in
      subst (Reads reject_duplicates (Shape.struct u fs) n) m.2 (Reads.struct (struct_related reject_duplicates u fs n m.0 (λ es ms f. names_related reject_duplicates fs es ms f) (λ xs ms f. places_related reject_duplicates fs xs ms f) m.1))
  related reject_duplicates (Shape.newtype s) n d e = let m = mapped Data.newtype (reads reject_duplicates s n) d e in subst (Reads reject_duplicates (Shape.newtype s) n) m.2 (Reads.newtype (related reject_duplicates s n m.0 m.1))
  related reject_duplicates (Shape.enumeration vs) n d e = enum_related reject_duplicates vs n d (λ name t d f. variants_related reject_duplicates vs name t d f) e
  related reject_duplicates Shape.any n d e = any_related reject_duplicates n d e
  related reject_duplicates Shape.ignored n d e = ignored_related reject_duplicates n d e

  first_related : (reject_duplicates : Bool) (ss : Shapes) (xs : List (Option Tree)) (ds : List Data) → reads_tuple reject_duplicates ss xs ≡ Some ds → ReadsFirst reject_duplicates ss xs (values_of ds)
  first_related reject_duplicates no_shapes xs ds e = subst (λ (ds : List Data). ReadsFirst reject_duplicates no_shapes xs (values_of ds)) (same_Some [] ds e) ReadsFirst.first_end
  first_related reject_duplicates (one_shape s ss) [] ds e = absurd (none-some ds e)
  first_related reject_duplicates (one_shape s ss) (x ∷ xs) ds e =
      let c = chained (λ d. with_front d (reads_tuple reject_duplicates ss xs)) (option_and_then (reads reject_duplicates s) x) ds e in
      let i = chained (reads reject_duplicates s) x c.0 c.1 in
      let m = mapped (λ ds. c.0 ∷ ds) (reads_tuple reject_duplicates ss xs) ds c.2 in
      subst (λ (o : Option Tree). ReadsFirst reject_duplicates (one_shape s ss) (o ∷ xs) (values_of ds)) (sym i.1)
      (subst (λ (ds : List Data). ReadsFirst reject_duplicates (one_shape s ss) (Some i.0 ∷ xs) (values_of ds)) m.2 (ReadsFirst.first_item (related reject_duplicates s i.0 c.0 i.2) (first_related reject_duplicates ss xs m.0 m.1)))

  names_related : (reject_duplicates : Bool) (fs : Fields) (es : Entries) (ms : List Named) → reads_names reject_duplicates fs es ≡ Some ms → ReadsNames reject_duplicates fs es (members_of ms)
  names_related reject_duplicates no_fields es ms e = subst (λ (ms : List Named). ReadsNames reject_duplicates no_fields es (members_of ms)) (same_Some [] ms e) ReadsNames.names_end
  names_related reject_duplicates (one_field name s optional fs) es ms e =
      let c = chained (λ d. with_field name d (reads_names reject_duplicates fs es)) (read_field optional (is_option s) (reads reject_duplicates s) (found name es)) ms e in
      let f = field_cut name c.0 (reads_names reject_duplicates fs es) ms c.2 in
      subst (ReadsNames reject_duplicates (one_field name s optional fs) es) f.2 (name_related reject_duplicates name s optional fs es c.0 (members_of f.0) (λ n d g. related reject_duplicates s n d g) c.1 (names_related reject_duplicates fs es f.0 f.1))

  places_related : (reject_duplicates : Bool) (fs : Fields) (xs : Items) (ms : List Named) → reads_places reject_duplicates fs xs ≡ Some ms → ReadsPlaces reject_duplicates fs xs (members_of ms)
  places_related reject_duplicates no_fields xs ms e = subst (λ (ms : List Named). ReadsPlaces reject_duplicates no_fields xs (members_of ms)) (same_Some [] ms e) ReadsPlaces.places_end
  places_related reject_duplicates (one_field name s optional fs) xs ms e =
      let c = chained (λ d. with_field name d (reads_places reject_duplicates fs (items_after xs))) (read_place optional (reads reject_duplicates s) xs) ms e in
      let f = field_cut name c.0 (reads_places reject_duplicates fs (items_after xs)) ms c.2 in
      subst (ReadsPlaces reject_duplicates (one_field name s optional fs) xs) f.2 (place_related reject_duplicates name s optional fs xs c.0 (members_of f.0) (λ n d g. related reject_duplicates s n d g) c.1 (places_related reject_duplicates fs (items_after xs) f.0 f.1))

  variants_related : (reject_duplicates : Bool) (vs : Variants) (name : List ℕ) (t : Tree) (d : Data) → reads_variant reject_duplicates vs name t ≡ Some d → Variant reject_duplicates vs name t d
  variants_related reject_duplicates no_variants name t d e = absurd (none-some d e)
  variants_related reject_duplicates (one_variant n k vs) name t d e = first_variant reject_duplicates n name k vs t d (λ f. kind_related reject_duplicates k n t d f) (λ f. variants_related reject_duplicates vs name t d f) (bytes_eq n name) refl e

  kind_related : (reject_duplicates : Bool) (k : VariantKind) (name : List ℕ) (t : Tree) (d : Data) → reads_kind reject_duplicates k name t ≡ Some d → ReadsVariant reject_duplicates k name t d
  kind_related reject_duplicates unit_kind name t d e = subst (ReadsVariant reject_duplicates unit_kind name t) (same_Some (Data.unit_variant name) d e) ReadsVariant.as_unit
  kind_related reject_duplicates (newtype_kind s) name t d e = let m = mapped (Data.newtype_variant name) (reads reject_duplicates s t) d e in subst (ReadsVariant reject_duplicates (newtype_kind s) name t) m.2 (ReadsVariant.as_newtype (related reject_duplicates s t m.0 m.1))
  kind_related reject_duplicates (tuple_kind ss) name t d e = values_related reject_duplicates t d (Data.tuple_variant name) (ReadsVariant reject_duplicates (tuple_kind ss) name t) (reads_tuple reject_duplicates ss) (λ xs ds i f. ReadsVariant.as_tuple i (first_related reject_duplicates ss xs ds f)) e
  kind_related reject_duplicates (struct_kind u fs) name t d e =
      let m = mapped (λ ms. Data.struct_variant name (members_of ms)) (struct_members (keys_are_allowed u fs) (reads_names reject_duplicates fs) (reads_places reject_duplicates fs) (as_map t)) d e in
      subst (ReadsVariant reject_duplicates (struct_kind u fs) name t) m.2 (ReadsVariant.as_struct (struct_related reject_duplicates u fs (as_map t) m.0 (λ es ms f. names_related reject_duplicates fs es ms f) (λ xs ms f. places_related reject_duplicates fs xs ms f) m.1))

pub is_the_relation : (reject_duplicates : Bool) (s : Shape) (n : Tree) (d : Data) → is_distinct s ≡ true → (Reads reject_duplicates s n d ↔ (reads reject_duplicates s n ≡ Some d))
is_the_relation reject_duplicates s n d h = (λ r. sound reject_duplicates h r, λ e. related reject_duplicates s n d e)

pub none_related : (reject_duplicates : Bool) (s : Shape) (n : Tree) → is_distinct s ≡ true → (((d : Data) → Reads reject_duplicates s n d → ⊥) ↔ (reads reject_duplicates s n ≡ None))
none_related reject_duplicates s n h = (λ none. by (reads reject_duplicates s n) refl none, λ e d r. none-some d (sym e ∙ sound reject_duplicates h r))
  where
    by : (o : Option Data) → reads reject_duplicates s n ≡ o → ((d : Data) → Reads reject_duplicates s n d → ⊥) → o ≡ None
    by None e none = refl
    by (Some d) e none = absurd (none d (related reject_duplicates s n d e))
