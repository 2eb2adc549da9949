-- What the function of reading reads, the relation relates.
use Rattle.std.proofs.Common.{◌≡◌, ℕ, Bool, true, false, cond, List, [], ◌∷◌, Option, Some, None, refl, sym, ap, ◌∙◌, subst}
use Rattle.std.specs.Option.{option_map, option_and_then}
use Rattle.std.specs.Str.{bytes_eq, is_utf8}
use Rattle.std.proofs.lemmas.Option.{none-some, same_Some}
use Rattle.qs_spec.specs.Segment.{segment_text}
use Rattle.qs_spec.specs.Leaf.Leaf.{NoValue, Null, Text}
use Rattle.qs_spec.specs.Tree.{Tree, Items, Entries}
use Rattle.qs_spec.specs.Tree.Tree.{leaf, sequence, mapping, uninitialized}
use Rattle.qs_spec.specs.Tree.Items.{item, no_items}
use Rattle.qs_spec.specs.Tree.Entries.{entry, no_entries}
use Rattle.qs_spec.specs.Data.{Data, Members, one_member, values_of, pairs_of, members_of, Named}
use Rattle.qs_spec.specs.Shape.{Shape, Fields, one_field, Variants, no_variants, one_variant, VariantKind, unit_kind, newtype_kind, tuple_kind, struct_kind, UnknownKeys, KeyShape, is_option}
use Rattle.qs_spec.specs.Scalar.{text_data, key_data}
use Rattle.qs_spec.specs.Node.{last_item, found, keys_are_allowed, under_empty}
use Rattle.qs_spec.specs.internal.ReadFunction.{read_scalar, read_option, read_unit, read_character, read_ignored, read_each, with_front, read_field, read_place, items_after, with_field, struct_members, read_pairs, read_map, is_unit_kind, unit_variant_data, reads, reads_names, reads_places}
use Rattle.qs_spec.specs.Node.{last_text, IsFull}
use Rattle.qs_spec.specs.Relation.{HasVariant, Reads, ReadsEach, ReadsPairs, ReadsStruct, ReadsNames, ReadsPlaces}
use Rattle.qs_spec.proofs.SomeAnswers.{mapped, chained, tested}
use Rattle.qs_spec.proofs.VariantNames.{bytes_equal}

-- what a shape reads is related
abbrev pub Reading : Bool → Shape → Type 0
Reading reject_duplicates s = (n : Tree) (d : Data) → reads reject_duplicates s n ≡ Some d → Reads reject_duplicates s n d

pub text_related : (t : List ℕ) (d : Data) → text_data t ≡ Some d → (is_utf8 t ≡ true) × (Data.text t ≡ d)
text_related t d e = tested (is_utf8 t) (Data.text t) d e

-- a scalar by cases
pub scalar_related : (reject_duplicates : Bool) (empty : Option Data) (get : List ℕ → Option Data) (P : Tree → Type 0) (d : Data) → (empty ≡ Some d → P (leaf NoValue)) → (empty ≡ Some d → P (leaf Null))
    → ((n : Tree) (t : List ℕ) → last_text reject_duplicates n ≡ Some t → get t ≡ Some d → P n) → (n : Tree) → read_scalar reject_duplicates empty get n ≡ Some d → P n
scalar_related reject_duplicates empty get P d no_value null some (leaf NoValue) e = no_value e
scalar_related reject_duplicates empty get P d no_value null some (leaf Null) e = null e
scalar_related reject_duplicates empty get P d no_value null some (leaf (Text t m)) e = some (leaf (Text t m)) t refl e
scalar_related reject_duplicates empty get P d no_value null some (sequence xs) e = let c = chained get (last_item reject_duplicates xs) d e in some (sequence xs) c.0 c.1 c.2
scalar_related reject_duplicates empty get P d no_value null some (mapping es) e = absurd (none-some d e)
scalar_related reject_duplicates empty get P d no_value null some uninitialized e = absurd (none-some d e)

pub unit_related : (reject_duplicates : Bool) (n : Tree) (d : Data) → read_unit n ≡ Some d → Reads reject_duplicates Shape.unit n d
unit_related reject_duplicates (leaf NoValue) d e = subst (Reads reject_duplicates Shape.unit (leaf NoValue)) (same_Some Data.unit d e) Reads.unit_no_value
unit_related reject_duplicates (leaf Null) d e = subst (Reads reject_duplicates Shape.unit (leaf Null)) (same_Some Data.unit d e) Reads.unit_null
unit_related reject_duplicates (leaf (Text t m)) d e = absurd (none-some d e)
unit_related reject_duplicates (sequence xs) d e = absurd (none-some d e)
unit_related reject_duplicates (mapping es) d e = absurd (none-some d e)
unit_related reject_duplicates uninitialized d e = absurd (none-some d e)

pub character_related : (reject_duplicates : Bool) (n : Tree) (d : Data) → read_character n ≡ Some d → Reads reject_duplicates Shape.character n d
character_related reject_duplicates (leaf NoValue) d e = absurd (none-some d e)
character_related reject_duplicates (leaf Null) d e = absurd (none-some d e)
character_related reject_duplicates (leaf (Text t m)) d e = Reads.character e
character_related reject_duplicates (sequence xs) d e = absurd (none-some d e)
character_related reject_duplicates (mapping es) d e = absurd (none-some d e)
character_related reject_duplicates uninitialized d e = absurd (none-some d e)

pub ignored_related : (reject_duplicates : Bool) (n : Tree) (d : Data) → read_ignored n ≡ Some d → Reads reject_duplicates Shape.ignored n d
ignored_related reject_duplicates (leaf l) d e = subst (Reads reject_duplicates Shape.ignored (leaf l)) (same_Some Data.unit d e) (Reads.ignored tt)
ignored_related reject_duplicates (sequence xs) d e = subst (Reads reject_duplicates Shape.ignored (sequence xs)) (same_Some Data.unit d e) (Reads.ignored tt)
ignored_related reject_duplicates (mapping es) d e = subst (Reads reject_duplicates Shape.ignored (mapping es)) (same_Some Data.unit d e) (Reads.ignored tt)
ignored_related reject_duplicates uninitialized d e = absurd (none-some d e)

-- some of what the shape reads from a full node
full_related : (reject_duplicates : Bool) (s : Shape) (n : Tree) (d : Data) → Reading reject_duplicates s → IsFull n → option_map Data.some (reads reject_duplicates s n) ≡ Some d → Reads reject_duplicates (Shape.option s) n d
full_related reject_duplicates s n d h f e = let m = mapped Data.some (reads reject_duplicates s n) d e in subst (Reads reject_duplicates (Shape.option s) n) m.2 (Reads.option_full f (h n m.0 m.1))

pub option_related : (reject_duplicates : Bool) (s : Shape) (n : Tree) (d : Data) → Reading reject_duplicates s → read_option (reads reject_duplicates s) n ≡ Some d → Reads reject_duplicates (Shape.option s) n d
option_related reject_duplicates s (leaf NoValue) d h e = subst (Reads reject_duplicates (Shape.option s) (leaf NoValue)) (same_Some Data.none d e) Reads.option_no_value
option_related reject_duplicates s (leaf Null) d h e = let m = mapped Data.some (reads reject_duplicates s (leaf NoValue)) d e in subst (Reads reject_duplicates (Shape.option s) (leaf Null)) m.2 (Reads.option_null (h (leaf NoValue) m.0 m.1))
option_related reject_duplicates s (leaf (Text t m)) d h e = full_related reject_duplicates s (leaf (Text t m)) d h tt e
option_related reject_duplicates s (sequence xs) d h e = full_related reject_duplicates s (sequence xs) d h tt e
option_related reject_duplicates s (mapping es) d h e = full_related reject_duplicates s (mapping es) d h tt e
option_related reject_duplicates s uninitialized d h e = absurd (none-some d e)

pub each_related : (reject_duplicates : Bool) (s : Shape) → Reading reject_duplicates s → (xs : List (Option Tree)) (ds : List Data) → read_each (reads reject_duplicates s) xs ≡ Some ds → ReadsEach reject_duplicates s xs (values_of ds)
each_related reject_duplicates s h [] ds e = subst (λ (ds : List Data). ReadsEach reject_duplicates s [] (values_of ds)) (same_Some [] ds e) ReadsEach.each_end
each_related reject_duplicates s h (x ∷ xs) ds e =
    let c = chained (λ d. with_front d (read_each (reads reject_duplicates s) xs)) (option_and_then (reads reject_duplicates s) x) ds e in
    let i = chained (reads reject_duplicates s) x c.0 c.1 in
    let m = mapped (λ ds. c.0 ∷ ds) (read_each (reads reject_duplicates s) xs) ds c.2 in
    subst (λ (o : Option Tree). ReadsEach reject_duplicates s (o ∷ xs) (values_of ds)) (sym i.1)
    (subst (λ (ds : List Data). ReadsEach reject_duplicates s (Some i.0 ∷ xs) (values_of ds)) m.2 (ReadsEach.each_item (h i.0 c.0 i.2) (each_related reject_duplicates s h xs m.0 m.1)))

pairs_related : (reject_duplicates : Bool) (k : KeyShape) (s : Shape) → Reading reject_duplicates s → (es : Entries) (ps : List (Data × Data)) → read_pairs k (reads reject_duplicates s) es ≡ Some ps → ReadsPairs reject_duplicates k s es (pairs_of ps)
pairs_related reject_duplicates k s h no_entries ps e = subst (λ (ps : List (Data × Data)). ReadsPairs reject_duplicates k s no_entries (pairs_of ps)) (same_Some [] ps e) ReadsPairs.pairs_end
pairs_related reject_duplicates k s h (entry key escaped t es) ps e =
    let a = chained (λ a. option_and_then (λ d. with_front (a, d) (read_pairs k (reads reject_duplicates s) es)) (reads reject_duplicates s t)) (key_data k (segment_text key)) ps e in
    let d = chained (λ d. with_front (a.0, d) (read_pairs k (reads reject_duplicates s) es)) (reads reject_duplicates s t) ps a.2 in
    let m = mapped (λ ps. (a.0, d.0) ∷ ps) (read_pairs k (reads reject_duplicates s) es) ps d.2 in
    subst (λ (ps : List (Data × Data)). ReadsPairs reject_duplicates k s (entry key escaped t es) (pairs_of ps)) {x = (a.0, d.0) ∷ m.0} m.2 (ReadsPairs.pairs_more a.1 (h t d.0 d.1) (pairs_related reject_duplicates k s h es m.0 m.1))

pub map_related : (reject_duplicates : Bool) (k : KeyShape) (s : Shape) (n : Tree) (ps : List (Data × Data)) → Reading reject_duplicates s → read_map k (reads reject_duplicates s) n ≡ Some ps → Reads reject_duplicates (Shape.mapping k s) n (Data.mapping (pairs_of ps))
unfolding read_map
map_related reject_duplicates k s (leaf NoValue) ps h e = subst (λ (ps : List (Data × Data)). Reads reject_duplicates (Shape.mapping k s) (leaf NoValue) (Data.mapping (pairs_of ps))) (same_Some [] ps e) Reads.map_no_value
map_related reject_duplicates k s (leaf Null) ps h e = subst (λ (ps : List (Data × Data)). Reads reject_duplicates (Shape.mapping k s) (leaf Null) (Data.mapping (pairs_of ps))) (same_Some [] ps e) Reads.map_null
map_related reject_duplicates k s (leaf (Text t m)) ps h e = Reads.map_text (pairs_related reject_duplicates k s h (under_empty (leaf (Text t m))) ps e)
map_related reject_duplicates k s (sequence xs) ps h e = absurd (none-some ps e)
map_related reject_duplicates k s (mapping es) ps h e = Reads.map (pairs_related reject_duplicates k s h es ps e)
map_related reject_duplicates k s uninitialized ps h e = absurd (none-some ps e)

-- a field that was read, or left out, in front of the others
abbrev pub with_member : List ℕ → Option Data → Members → Members
with_member name None ms = ms
with_member name (Some d) ms = one_member name d ms

pub field_cut : (name : List ℕ) (o : Option Data) (rest : Option (List Named)) (ms : List Named) → with_field name o rest ≡ Some ms → (more : List Named) × (rest ≡ Some more) × (with_member name o (members_of more) ≡ members_of ms)
field_cut name None rest ms e = (ms, e, refl)
field_cut name (Some d) rest ms e = let m = mapped (λ more. (name, d) ∷ more) rest ms e in (m.0, m.1, ap members_of m.2)

option_of : (s : Shape) → is_option s ≡ true → (r : Shape) × (Shape.option r ≡ s)
option_of (Shape.option s) e = (s, refl)
option_of Shape.unit e = cc
option_of Shape.boolean e = cc
option_of (Shape.unsigned bits) e = cc
option_of (Shape.signed bits) e = cc
option_of Shape.character e = cc
option_of Shape.text e = cc
option_of Shape.bytes e = cc
option_of (Shape.sequence s) e = cc
option_of (Shape.tuple ss) e = cc
option_of (Shape.mapping k s) e = cc
option_of (Shape.struct u fs) e = cc
option_of (Shape.newtype s) e = cc
option_of (Shape.enumeration vs) e = cc
option_of Shape.any e = cc
option_of Shape.ignored e = cc

pub name_related : (reject_duplicates : Bool) (name : List ℕ) (s : Shape) (optional : Bool) (fs : Fields) (es : Entries) (o : Option Data) (ms : Members) → Reading reject_duplicates s
    → read_field optional (is_option s) (reads reject_duplicates s) (found name es) ≡ Some o → ReadsNames reject_duplicates fs es ms → ReadsNames reject_duplicates (one_field name s optional fs) es (with_member name o ms)
name_related reject_duplicates name s optional fs es o ms h e more = by (found name es) refl e
  where
    none_found : (optional b : Bool) → is_option s ≡ b → found name es ≡ [] → cond optional (Some None) (cond b (Some (Some Data.none)) None) ≡ Some o → ReadsNames reject_duplicates (one_field name s optional fs) es (with_member name o ms)
    none_found true b i f e = subst (λ (o : Option Data). ReadsNames reject_duplicates (one_field name s true fs) es (with_member name o ms)) (same_Some None o e) (ReadsNames.name_left_out f more)
    none_found false true i f e =
        let r = option_of s i in
        subst (λ (s : Shape). ReadsNames reject_duplicates (one_field name s false fs) es (with_member name o ms)) r.1
        (subst (λ (o : Option Data). ReadsNames reject_duplicates (one_field name (Shape.option r.0) false fs) es (with_member name o ms)) (same_Some (Some Data.none) o e) (ReadsNames.name_as_none f more))
    none_found false false i f e = absurd (none-some o e)

    by : (ns : List Tree) → found name es ≡ ns → read_field optional (is_option s) (reads reject_duplicates s) ns ≡ Some o → ReadsNames reject_duplicates (one_field name s optional fs) es (with_member name o ms)
    by [] f e = none_found optional (is_option s) refl f e
    by (t ∷ []) f e =
        let m = mapped Some (reads reject_duplicates s t) o e in
        subst (λ (o : Option Data). ReadsNames reject_duplicates (one_field name s optional fs) es (with_member name o ms)) m.2 (ReadsNames.name_found f (h t m.0 m.1) more)
    by (t ∷ u ∷ ts) f e = absurd (none-some o e)

pub place_related : (reject_duplicates : Bool) (name : List ℕ) (s : Shape) (optional : Bool) (fs : Fields) (xs : Items) (o : Option Data) (ms : Members) → Reading reject_duplicates s
    → read_place optional (reads reject_duplicates s) xs ≡ Some o → ReadsPlaces reject_duplicates fs (items_after xs) ms → ReadsPlaces reject_duplicates (one_field name s optional fs) xs (with_member name o ms)
place_related reject_duplicates name s true fs no_items o ms h e more = subst (λ (o : Option Data). ReadsPlaces reject_duplicates (one_field name s true fs) no_items (with_member name o ms)) (same_Some None o e) (ReadsPlaces.place_left_out more)
place_related reject_duplicates name s false fs no_items o ms h e more = absurd (none-some o e)
place_related reject_duplicates name s optional fs (item t xs) o ms h e more =
    let m = mapped Some (reads reject_duplicates s t) o e in
    subst (λ (o : Option Data). ReadsPlaces reject_duplicates (one_field name s optional fs) (item t xs) (with_member name o ms)) m.2 (ReadsPlaces.place_found (h t m.0 m.1) more)

-- the fields of a node, by what is related of their names and of their indices
pub struct_related : (reject_duplicates : Bool) (u : UnknownKeys) (fs : Fields) (n : Tree) (ms : List Named) → ((es : Entries) (ms : List Named) → reads_names reject_duplicates fs es ≡ Some ms → ReadsNames reject_duplicates fs es (members_of ms))
    → ((xs : Items) (ms : List Named) → reads_places reject_duplicates fs xs ≡ Some ms → ReadsPlaces reject_duplicates fs xs (members_of ms)) → struct_members (keys_are_allowed u fs) (reads_names reject_duplicates fs) (reads_places reject_duplicates fs) n ≡ Some ms → ReadsStruct reject_duplicates u fs n (members_of ms)
unfolding struct_members
struct_related reject_duplicates u fs (leaf NoValue) ms names places e = ReadsStruct.fields_of_no_value (names no_entries ms e)
struct_related reject_duplicates u fs (leaf Null) ms names places e = ReadsStruct.fields_of_null (names no_entries ms e)
struct_related reject_duplicates u fs (leaf (Text t m)) ms names places e = absurd (none-some ms e)
struct_related reject_duplicates u fs (sequence xs) ms names places e = ReadsStruct.fields_by_place (places xs ms e)
struct_related reject_duplicates u fs (mapping es) ms names places e =
    let c = chained (λ ms. cond (keys_are_allowed u fs es) (Some ms) None) (reads_names reject_duplicates fs es) ms e in
    let d = tested (keys_are_allowed u fs es) c.0 ms c.2 in
    ReadsStruct.fields_by_name d.0 (names es ms (c.1 ∙ ap Some d.1))
struct_related reject_duplicates u fs uninitialized ms names places e = absurd (none-some ms e)

unit_of : (k : VariantKind) → is_unit_kind k ≡ true → unit_kind ≡ k
unit_of unit_kind e = refl
unit_of (newtype_kind s) e = cc
unit_of (tuple_kind ss) e = cc
unit_of (struct_kind u fs) e = cc

pub unit_variant_related : (vs : Variants) (name : List ℕ) (d : Data) → unit_variant_data vs name ≡ Some d → HasVariant name unit_kind vs × (Data.unit_variant name ≡ d)
unit_variant_related no_variants name d e = absurd (none-some d e)
unit_variant_related (one_variant n k vs) name d e = by (bytes_eq n name) refl e (unit_variant_related vs name d)
  where
    by : (b : Bool) → bytes_eq n name ≡ b → cond b (cond (is_unit_kind k) (Some (Data.unit_variant n)) None) (unit_variant_data vs name) ≡ Some d
        → (unit_variant_data vs name ≡ Some d → HasVariant name unit_kind vs × (Data.unit_variant name ≡ d)) → HasVariant name unit_kind (one_variant n k vs) × (Data.unit_variant name ≡ d)
    by true f e h =
        let u = tested (is_unit_kind k) (Data.unit_variant n) d e in
        let same : n ≡ name = bytes_equal n name f in
        (subst (λ (k : VariantKind). HasVariant name unit_kind (one_variant n k vs)) (unit_of k u.0) (subst (λ (m : List ℕ). HasVariant name unit_kind (one_variant m unit_kind vs)) (sym same) HasVariant.first), ap Data.unit_variant (sym same) ∙ u.1)
    by false f e h = let r = h e in (HasVariant.later r.0, r.1)
