-- The variants of an enum, and the keys that name variants, as they are read.
use Rattle.std.proofs.Common.{◌≡◌, inl, inr, ℕ, zero, suc, ◌<◌, ◌||◌, cond, Bool, true, false, HoldsAt, List, [], ◌∷◌, length, slice_get, Option, Some, None, refl, sym, ap, ◌∙◌, arith}
use Rattle.std.specs.Option.{option_map}
use Rattle.std.specs.List.{list_any}
use Rattle.std.specs.Str.{bytes_eq}
use Rattle.std.proofs.lemmas.Option.{same_Some, none-some}
use Rattle.qs_data.proofs.Common.{cases_Bool}
use Rattle.qs_data.proofs.lemmas.read.Lookups.{bytes_eq_same}
use Rattle.qs_spec.proofs.VariantNames.{bytes_equal}
use Rattle.serde.specs.Names.{NoneBelow, StandsFor}
use Rattle.serde.specs.declared.name.Name.{Name}
use Rattle.serde.specs.declared.format.Kind.TheVariants as kind
use Rattle.qs_spec.specs.Data as d
use Rattle.qs_spec.specs.Shape as s
use Rattle.qs_spec.specs.Leaf.Leaf.{NoValue, Null, Text}
use Rattle.qs_spec.specs.Node.{as_map, keys_are_allowed}
use Rattle.qs_spec.specs.Scalar.{name_data}
use Rattle.qs_spec.specs.Segment.{segment_text}
use Rattle.qs_spec.specs.Tree.{Tree, Entries, Items}
use Rattle.qs_spec.specs.Tree.Entries.{no_entries, entry}
use Rattle.qs_spec.specs.Tree.Tree.{leaf, sequence, mapping, uninitialized}
use Rattle.qs_spec.specs.internal.ReadFunction.{is_unit_kind, read_enum, read_unit, reads, reads_kind, reads_names, reads_places, reads_variant, struct_members, unit_variant_data}
use Rattle.qs_serde.specs.Lookups.{FindsText, LooksUp}
use Rattle.qs_serde.specs.Nodes.{key_tree, pairs_in}
use Rattle.qs_serde.specs.Places.{is_tried_part, part_tree}
use Rattle.qs_serde.specs.Runs.{AreKeys, AreVariants, IsOnly, variant_at}
use Rattle.qs_serde.specs.Steps.{is_unit, kind_of_node}
use Rattle.qs_serde.specs.declared.reading.node.Part.{Part}
use Rattle.qs_serde.specs.declared.reading.node.Part.TheVariants as p
use Rattle.qs_serde.proofs.RunFields.{no_alias}

-- the first name that a text stands for
abbrev pub IsFirst : List Name → List ℕ → ℕ → Type 0
IsFirst names t at = (at < length names → HoldsAt (StandsFor t) names at) × NoneBelow names t at

is_this : (n : Name) (name t : List ℕ) → IsOnly n name → StandsFor t n → t ≡ name
is_this n name t only stands = elim stands.1 [ inl is ↦ is ∙ only.2 | inr any ↦ absurd (no_alias t n.aliases.now only.1 any) ]

not_this : (n : Name) (name t : List ℕ) → IsOnly n name → (StandsFor t n → ⊥) → bytes_eq name t ≡ false
not_this n name t only not = elim (cases_Bool (bytes_eq name t)) [
  | inl is ↦ absurd (not (only.0, inl (sym (bytes_equal name t is) ∙ sym only.2)))
  | inr other ↦ other
]

first_after : (n : Name) (ns : List Name) (t : List ℕ) (at : ℕ) → IsFirst (n ∷ ns) t (suc at) → IsFirst ns t at
first_after n ns t at first = (
  (λ lt. let more : suc at < length (n ∷ ns) = omega (lt, arith) in first.0 more),
  (λ i lt len. let a : suc i < suc at = omega (lt, arith) in let b : suc i < length (n ∷ ns) = omega (len, arith) in first.1 (suc i) a b),
)

not_here : (n : Name) (ns : List Name) (t : List ℕ) (at : ℕ) → IsFirst (n ∷ ns) t (suc at) → StandsFor t n → ⊥
not_here n ns t at first stands =
    let a : 0 < suc at = omega arith in
    let b : 0 < length (n ∷ ns) = omega arith in
    first.1 0 a b (λ dflt. stands)

here : (n : Name) (ns : List Name) (t : List ℕ) → IsFirst (n ∷ ns) t 0 → StandsFor t n
here n ns t first = let lt : 0 < length (n ∷ ns) = omega arith in first.0 lt n

-- the variant of a name
abbrev pub IsVariant : Bool → s.Variants → List ℕ → s.Variant → Type 0
IsVariant rd vs t v = (unit_variant_data vs t ≡ cond (is_unit_kind v.1) (Some (d.unit_variant v.0)) None) × ((node : Tree) → reads_variant rd vs t node ≡ reads_kind rd v.1 v.0 node)

pub variant_found : (rd : Bool) (names : List Name) (vs : s.Variants) (t : List ℕ) (at : ℕ) (v : s.Variant) → AreVariants names vs → IsFirst names t at → variant_at vs at ≡ Some v → IsVariant rd vs t v
unfolding reads
variant_found rd [] s.no_variants t at v named first is = absurd cc
variant_found rd (n ∷ ns) s.no_variants t at v named first is = absurd named
variant_found rd [] (s.one_variant name k vs) t at v named first is = absurd named
variant_found rd (n ∷ ns) (s.one_variant name k vs) t zero v named first is =
    let same : bytes_eq name t ≡ true = bytes_eq_same name t (sym (is_this n name t named.0 (here n ns t first))) in
    let v_is : (name, k) ≡ v = same_Some _ _ is in (
      ap (λ b. cond b (cond (is_unit_kind k) (Some (d.unit_variant name)) None) (unit_variant_data vs t)) same ∙ ap (λ (w : s.Variant). cond (is_unit_kind w.1) (Some (d.unit_variant w.0)) None) v_is,
      (λ node. ap (λ b. cond b (reads_kind rd k name node) (reads_variant rd vs t node)) same ∙ ap (λ (w : s.Variant). reads_kind rd w.1 w.0 node) v_is),
    )
variant_found rd (n ∷ ns) (s.one_variant name k vs) t (suc at) v named first is =
    let other = not_this n name t named.0 (not_here n ns t at first) in
    let rest = variant_found rd ns vs t at v named.1 (first_after n ns t at first) is in (
      ap (λ b. cond b (cond (is_unit_kind k) (Some (d.unit_variant name)) None) (unit_variant_data vs t)) other ∙ rest.0,
      (λ node. ap (λ b. cond b (reads_kind rd k name node) (reads_variant rd vs t node)) other ∙ rest.1 node),
    )

-- a key that names a unit variant
pub key_named : (names : List Name) (keys : List (List ℕ)) (t : List ℕ) (at : ℕ) (key : List ℕ) → AreKeys names keys → IsFirst names t at → slice_get keys at ≡ Some key → (t ≡ key) × (list_any (bytes_eq t) keys ≡ true)
key_named [] [] t at key named first is = absurd cc
key_named (n ∷ ns) [] t at key named first is = absurd named
key_named [] (name ∷ keys) t at key named first is = absurd named
key_named (n ∷ ns) (name ∷ keys) t zero key named first is =
    let same = is_this n name t named.0 (here n ns t first) in
    (same ∙ same_Some _ _ is, rw (bytes_eq_same t name same) refl)
key_named (n ∷ ns) (name ∷ keys) t (suc at) key named first is =
    let rest = key_named ns keys t at key named.1 (first_after n ns t at first) is in
    (rest.0, any_more (bytes_eq t name) (list_any (bytes_eq t) keys) rest.1)
  where
    any_more : (b c : Bool) → c ≡ true → (b || c) ≡ true
    any_more true c h = refl
    any_more false c h = h

-- what a text names
text_first : (names : List Name) (at : ℕ) (t : List ℕ) (m : Bool) → LooksUp (leaf (Text t m)) names at → IsFirst names t at
unfolding FindsText
text_first names at t m looks = (looks.0.0, looks.0.1)

pub named_key : (names : List Name) (keys : List (List ℕ)) (t : List ℕ) (m : Bool) (at : ℕ) (key : List ℕ) → AreKeys names keys → LooksUp (leaf (Text t m)) names at → slice_get keys at ≡ Some key → name_data keys t ≡ Some (d.unit_variant key)
named_key names keys t m at key named looks is =
    let found = key_named names keys t at key named (text_first names at t m looks) is in
    ap (λ b. cond b (Some (d.unit_variant t)) None) found.1 ∙ ap (λ u. Some (d.unit_variant u)) found.0

-- a text that names a unit variant
pub name_read : (rd : Bool) (names : List Name) (vs : s.Variants) (node : Tree) (at : ℕ) (v : s.Variant) → kind_of_node node ≡ Some kind.Str → LooksUp node names at → AreVariants names vs → variant_at vs at ≡ Some v → is_unit_kind v.1 ≡ true
    → reads rd (s.Shape.enumeration vs) node ≡ Some (d.unit_variant v.0)
unfolding reads read_enum
name_read rd names vs (leaf NoValue) at v str looks named is unit = absurd cc
name_read rd names vs (leaf Null) at v str looks named is unit = absurd cc
name_read rd names vs (leaf (Text t m)) at v str looks named is unit =
    (variant_found rd names vs t at v named (text_first names at t m looks) is).0 ∙ ap (λ b. cond b (Some (d.unit_variant v.0)) None) unit
name_read rd names vs (sequence xs) at v str looks named is unit = absurd cc
name_read rd names vs (mapping es) at v str looks named is unit = absurd cc
name_read rd names vs uninitialized at v str looks named is unit = absurd cc

-- a map whose first key names a variant
pub first_entry : (rd : Bool) (names : List Name) (vs : s.Variants) (node t : Tree) (at : ℕ) (v : s.Variant) (x : d.Data) → (kind_of_node node ≡ Some kind.Str → ⊥) → LooksUp (key_tree (slice_get (pairs_in node) 0)) names at
    → option_map (λ e. e.1) (slice_get (pairs_in node) 0) ≡ Some t → AreVariants names vs → variant_at vs at ≡ Some v → reads_kind rd v.1 v.0 t ≡ Some x → reads rd (s.Shape.enumeration vs) node ≡ Some x
unfolding reads read_enum
first_entry rd names vs (leaf NoValue) t at v x str looks value named is got = absurd (none-some _ value)
first_entry rd names vs (leaf Null) t at v x str looks value named is got = absurd (none-some _ value)
first_entry rd names vs (leaf (Text b m)) t at v x str looks value named is got = absurd (str refl)
first_entry rd names vs (sequence xs) t at v x str looks value named is got = absurd (none-some _ value)
first_entry rd names vs (mapping no_entries) t at v x str looks value named is got = absurd (none-some _ value)
first_entry rd names vs (mapping (entry key m u es)) t at v x str looks value named is got =
    (variant_found rd names vs (segment_text key) at v named (text_first names at (segment_text key) false looks) is).1 u ∙ ap (reads_kind rd v.1 v.0) (same_Some _ _ value) ∙ got
first_entry rd names vs uninitialized t at v x str looks value named is got = absurd (none-some _ value)

-- what a variant holds, as its tuple and its struct are read

values_same : (make : d.Values → d.Data) (o : Option (List d.Data)) (xs : d.Values) → option_map (λ ds. d.tuple (d.values_of ds)) o ≡ Some (d.tuple xs) → option_map (λ ds. make (d.values_of ds)) o ≡ Some (make xs)
values_same make None xs h = absurd (none-some _ h)
values_same make (Some ds) xs h = let same : d.values_of ds ≡ xs = cc in ap (λ ys. Some (make ys)) same

members_same : (make : d.Members → d.Data) (o : Option (List d.Named)) (ms : d.Members) → option_map (λ ns. d.struct (d.members_of ns)) o ≡ Some (d.struct ms) → option_map (λ ns. make (d.members_of ns)) o ≡ Some (make ms)
members_same make None ms h = absurd (none-some _ h)
members_same make (Some ns) ms h = let same : d.members_of ns ≡ ms = cc in ap (λ ys. Some (make ys)) same

pub tuple_held : (rd : Bool) (parts : s.Shapes) (name : List ℕ) (t : Tree) (xs : d.Values) → reads rd (s.Shape.tuple parts) t ≡ Some (d.tuple xs) → reads_kind rd (s.tuple_kind parts) name t ≡ Some (d.tuple_variant name xs)
unfolding reads
tuple_held rd parts name t xs h = values_same (d.tuple_variant name) _ xs h

as_it_is : (allowed : Entries → Bool) (names : Entries → Option (List d.Named)) (places : Items → Option (List d.Named)) (t : Tree) (ms : d.Members) → option_map (λ ns. d.struct (d.members_of ns)) (struct_members allowed names places t) ≡ Some (d.struct ms) → as_map t ≡ t
unfolding struct_members
as_it_is allowed names places (leaf NoValue) ms h = refl
as_it_is allowed names places (leaf Null) ms h = refl
as_it_is allowed names places (leaf (Text b m)) ms h = absurd (none-some _ h)
as_it_is allowed names places (sequence xs) ms h = refl
as_it_is allowed names places (mapping es) ms h = refl
as_it_is allowed names places uninitialized ms h = refl

pub struct_held : (rd : Bool) (unknown : s.UnknownKeys) (fs : s.Fields) (name : List ℕ) (t : Tree) (ms : d.Members) → reads rd (s.Shape.struct unknown fs) t ≡ Some (d.struct ms) → reads_kind rd (s.struct_kind unknown fs) name t ≡ Some (d.struct_variant name ms)
unfolding reads
struct_held rd unknown fs name t ms h =
    let allowed = keys_are_allowed unknown fs in let names = reads_names rd fs in let places = reads_places rd fs in
    members_same (d.struct_variant name) (struct_members allowed names places (as_map t)) ms
    (ap (λ u. option_map (λ ns. d.struct (d.members_of ns)) (struct_members allowed names places u)) (as_it_is allowed names places t ms h) ∙ h)

-- a unit that no variant holds
pub unit_here : (q : Part) (node top : Tree) (at : ℕ) → (q ≡ p.Held → ⊥) → is_tried_part q ≡ false → is_unit q node ≡ true → read_unit (part_tree q node top at) ≡ Some d.unit
unit_here p.Value (leaf NoValue) top at held t h = refl
unit_here p.Value (leaf Null) top at held t h = refl
unit_here p.Value (leaf (Text b m)) top at held t h = absurd cc
unit_here p.Value (sequence xs) top at held t h = absurd cc
unit_here p.Value (mapping es) top at held t h = absurd cc
unit_here p.Value uninitialized top at held t h = absurd cc
unit_here p.Held node top at held t h = absurd (held refl)
unit_here p.NoValue node top at held t h = refl
unit_here p.Key node top at held t h = absurd cc
unit_here p.Whole node top at held t h = absurd cc
unit_here p.Nothing node top at held t h = absurd cc
