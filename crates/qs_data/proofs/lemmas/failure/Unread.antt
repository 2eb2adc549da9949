-- Nothing is read from a node that has a fault of its own.
use Rattle.qs_data.proofs.Common.{◌≡◌, ◌∙◌, ℕ, ◌<◌, Bool, true, false, cond, List, [], ◌∷◌, zero, suc, Option, Some, None, refl, sym, ap, length, get_or, arith, option_map, option_and_then, Segment, Shape, Fields, KeyShape, Variants, one_field, Tree, Entries, leaf, mapping, sequence, uninitialized, no_entries, entry, found, items, is_option, field_of, fields_in, read_field, read_each, read_pairs, reads_tuple, keys_are_allowed, with_field, with_front, Reader, segment_text, key_data, variant_named, reads_variant, unit_variant_data, same_Some}
use Rattle.std.specs.Option.{is_some}
use Rattle.qs_spec.specs.Data.{Data, members_of, pairs_of, values_of}
use Rattle.qs_spec.specs.Leaf.{Leaf}
use Rattle.qs_spec.specs.Leaf.Leaf.{NoValue, Null, Text}
use Rattle.qs_spec.specs.Shape as s
use Rattle.qs_spec.specs.Shape.{UnknownKeys}
use Rattle.qs_spec.specs.internal.ReadFunction.{any_data, read_enum, read_list, read_map, reads, reads_names, reads_places, struct_members}
use Rattle.qs_data.specs.declared.shape.shape.Field.{Field}
use Rattle.qs_data.specs.read.Entries.{node_entries}
use Rattle.qs_data.specs.failure.Own.{IsOfKeys, IsOwn, has_fields, has_parts, names_variant}
use Rattle.qs_data.specs.failure.Parts.{HasEntry, HasField, field_keys}
use Rattle.qs_data.proofs.lemmas.read.Entries.{untested}
use Rattle.qs_data.proofs.lemmas.read.Variants.{enum_none}

-- a shape reads nothing from what is missing
missing_unread : (rd : Bool) (s : Shape) → reads rd s uninitialized ≡ None
unfolding reads read_list read_map read_enum struct_members any_data
missing_unread rd Shape.unit = refl
missing_unread rd Shape.boolean = refl
missing_unread rd (Shape.unsigned bits) = refl
missing_unread rd (Shape.signed bits) = refl
missing_unread rd Shape.character = refl
missing_unread rd Shape.text = refl
missing_unread rd Shape.bytes = refl
missing_unread rd (Shape.option s) = refl
missing_unread rd (Shape.sequence s) = refl
missing_unread rd (Shape.tuple ss) = refl
missing_unread rd (Shape.mapping k s) = refl
missing_unread rd (Shape.struct u fs) = refl
missing_unread rd (Shape.newtype s) = ap (option_map Data.newtype) (missing_unread rd s)
missing_unread rd (Shape.enumeration vs) = refl
missing_unread rd Shape.any = refl
missing_unread rd Shape.ignored = refl

list_unread : (rd : Bool) (s : Shape) (n : Tree) → items n ≡ None → reads rd (Shape.sequence s) n ≡ None
unfolding reads read_list
list_unread rd s n h = ap (λ x. option_map (λ ds. Data.sequence (values_of ds)) (option_and_then (read_each (reads rd s)) x)) h

-- the pairs of a node
map_unread : (rd : Bool) (k : KeyShape) (s : Shape) (n : Tree) → node_entries n ≡ None → reads rd (Shape.mapping k s) n ≡ None
unfolding reads read_map
map_unread rd k s (leaf NoValue) h = absurd cc
map_unread rd k s (leaf Null) h = absurd cc
map_unread rd k s (leaf (Text bytes escaped)) h = absurd cc
map_unread rd k s (sequence xs) h = refl
map_unread rd k s (mapping es) h = absurd cc
map_unread rd k s uninitialized h = refl

map_pairs : (k : KeyShape) (r : Reader) (n : Tree) (es : Entries) → node_entries n ≡ Some es → read_map k r n ≡ read_pairs k r es
unfolding read_map
map_pairs k r (leaf NoValue) es h = ap (read_pairs k r) (same_Some no_entries es h)
map_pairs k r (leaf Null) es h = ap (read_pairs k r) (same_Some no_entries es h)
map_pairs k r (leaf (Text bytes escaped)) es h = ap (read_pairs k r) (same_Some _ es h)
map_pairs k r (sequence xs) es h = absurd cc
map_pairs k r (mapping fs) es h = ap (read_pairs k r) (same_Some fs es h)
map_pairs k r uninitialized es h = absurd cc

no_rest : (key value : Option Data) → option_and_then (λ a. option_and_then (λ d. with_front {A = Data × Data} (a, d) None) value) key ≡ None
no_rest None value = refl
no_rest (Some a) None = refl
no_rest (Some a) (Some d) = refl

key_unread : (k : KeyShape) (r : Reader) (key : Segment) (m : Tree) (es : Entries) → HasEntry key m es → key_data k (segment_text key) ≡ None → read_pairs k r es ≡ None
key_unread k r key m _ (HasEntry.first {escaped = escaped} {es = es}) h = ap (λ x. option_and_then (λ a. option_and_then (λ d. with_front {A = Data × Data} (a, d) (read_pairs k r es)) (r m)) x) h
key_unread k r key m _ (HasEntry.later {k = j} {escaped = escaped} {m = t} {es = es} w) h =
    ap (λ rest. option_and_then (λ a. option_and_then (λ d. with_front {A = Data × Data} (a, d) rest) (r t)) (key_data k (segment_text j))) (key_unread k r key m es w h)
    ∙ no_rest (key_data k (segment_text j)) (r t)

-- the fields of a node
struct_unread : (rd : Bool) (u : UnknownKeys) (fs : Fields) (n : Tree) → has_fields n ≡ false → reads rd (Shape.struct u fs) n ≡ None
unfolding reads struct_members
struct_unread rd u fs (leaf NoValue) h = absurd cc
struct_unread rd u fs (leaf Null) h = absurd cc
struct_unread rd u fs (leaf (Text bytes escaped)) h = refl
struct_unread rd u fs (sequence xs) h = absurd cc
struct_unread rd u fs (mapping es) h = absurd cc
struct_unread rd u fs uninitialized h = refl

none_after : (name : List ℕ) (x : Option (Option Data)) → option_and_then (λ d. with_field name d None) x ≡ None
none_after name None = refl
none_after name (Some None) = refl
none_after name (Some (Some d)) = refl

-- fields one of which isn't read aren't read
names_none : (rd : Bool) (name : List ℕ) (s : Shape) (o : Bool) (fs : Fields) (es : Entries) → HasField name s o fs → read_field o (is_option s) (reads rd s) (found name es) ≡ None → reads_names rd fs es ≡ None
unfolding reads
names_none rd name s o _ es (HasField.first {fs = fs}) h = ap (option_and_then (λ d. with_field name d (reads_names rd fs es))) h
names_none rd name s o _ es (HasField.later {m = m} {t = t} {o = p} {fs = fs} w) h =
    let x = read_field p (is_option t) (reads rd t) (found m es) in
    ap (λ r. option_and_then (λ d. with_field m d r) x) (names_none rd name s o fs es w h) ∙ none_after m x

keys_unread : (rd : Bool) (u : UnknownKeys) (fs : Fields) (es : Entries) → IsOfKeys u fs es → option_and_then (λ ms. cond (keys_are_allowed u fs es) (Some ms) None) (reads_names rd fs es) ≡ None
keys_unread rd u fs es (IsOfKeys.two_keys {name = name} {s = s} {optional = o} w is) =
    ap (option_and_then (λ ms. cond (keys_are_allowed u fs es) (Some ms) None)) (names_none rd name s o fs es w (ap (read_field o (is_option s) (reads rd s)) is))
keys_unread rd u fs es (IsOfKeys.other_key not) = untested (keys_are_allowed u fs es) (reads_names rd fs es) not

same_option : {A : Type 0} (x : Option A) → option_and_then (λ a. Some a) x ≡ x
same_option None = refl
same_option (Some a) = refl

no_members : (rd : Bool) (u : UnknownKeys) (fs : Fields) (n : Tree) (es : Entries) → field_keys n ≡ Some es
    → option_and_then (λ ms. cond (keys_are_allowed u fs es) (Some ms) None) (reads_names rd fs es) ≡ None → reads rd (Shape.struct u fs) n ≡ None
unfolding reads struct_members
no_members rd u fs (leaf NoValue) es is h =
    let e : no_entries ≡ es = same_Some no_entries es is in
    let none : option_and_then (λ ms. Some ms) (reads_names rd fs no_entries) ≡ None = ap (λ x. option_and_then (λ ms. cond (keys_are_allowed u fs x) (Some ms) None) (reads_names rd fs x)) e ∙ h in
    ap (option_map (λ ms. Data.struct (members_of ms))) (sym (same_option (reads_names rd fs no_entries)) ∙ none)
no_members rd u fs (leaf Null) es is h =
    let e : no_entries ≡ es = same_Some no_entries es is in
    let none : option_and_then (λ ms. Some ms) (reads_names rd fs no_entries) ≡ None = ap (λ x. option_and_then (λ ms. cond (keys_are_allowed u fs x) (Some ms) None) (reads_names rd fs x)) e ∙ h in
    ap (option_map (λ ms. Data.struct (members_of ms))) (sym (same_option (reads_names rd fs no_entries)) ∙ none)
no_members rd u fs (leaf (Text bytes escaped)) es is h = absurd cc
no_members rd u fs (sequence xs) es is h = absurd cc
no_members rd u fs (mapping ds) es is h =
    let e : ds ≡ es = same_Some ds es is in
    ap (option_map (λ ms. Data.struct (members_of ms))) (ap (λ x. option_and_then (λ ms. cond (keys_are_allowed u fs x) (Some ms) None) (reads_names rd fs x)) e ∙ h)
no_members rd u fs uninitialized es is h = absurd cc

-- the variants of an enum
not_some : {A : Type 0} (x : Option A) → is_some x ≡ false → x ≡ None
not_some None h = refl
not_some (Some a) h = absurd cc

enum_unread : (rd : Bool) (vs : Variants) (n : Tree) → names_variant vs n ≡ false → reads rd (Shape.enumeration vs) n ≡ None
unfolding reads read_enum
enum_unread rd vs (leaf NoValue) h = refl
enum_unread rd vs (leaf Null) h = refl
enum_unread rd vs (leaf (Text bytes escaped)) h = not_some (unit_variant_data vs bytes) h
enum_unread rd vs (sequence xs) h = refl
enum_unread rd vs (mapping no_entries) h = refl
enum_unread rd vs (mapping (entry key escaped t es)) h =
    enum_none rd vs (entry key escaped t es) es key escaped t refl (ap (option_map Some) (not_some (variant_named (segment_text key) vs) h))
enum_unread rd vs uninitialized h = refl

tuple_unread : (rd : Bool) (ss : s.Shapes) (n : Tree) → items n ≡ None → reads rd (Shape.tuple ss) n ≡ None
unfolding reads
tuple_unread rd ss n h = ap (λ x. option_map (λ ds. Data.tuple (values_of ds)) (option_and_then (reads_tuple rd ss) x)) h

map_key_unread : (rd : Bool) (k : KeyShape) (s : Shape) (n m : Tree) (es : Entries) (key : Segment) → node_entries n ≡ Some es → HasEntry key m es → key_data k (segment_text key) ≡ None → reads rd (Shape.mapping k s) n ≡ None
unfolding reads
map_key_unread rd k s n m es key is w h = ap (option_map (λ ps. Data.mapping (pairs_of ps))) (map_pairs k (reads rd s) n es is ∙ key_unread k (reads rd s) key m es w h)

pub own_unread : (rd : Bool) (s : Shape) (n : Tree) → IsOwn rd s n → reads rd s n ≡ None
own_unread rd s n (IsOwn.no_parts parts none) = none
own_unread rd s _ IsOwn.nothing = missing_unread rd s
own_unread rd _ n (IsOwn.no_list {s = s} h) = list_unread rd s n h
own_unread rd _ n (IsOwn.no_tuple {ss = ss} h) = tuple_unread rd ss n h
own_unread rd _ n (IsOwn.no_map {k = k} {s = s} h) = map_unread rd k s n h
own_unread rd _ n (IsOwn.unread_key {k = k} {s = s} {m = m} {es = es} {key = key} is w h) = map_key_unread rd k s n m es key is w h
own_unread rd _ n (IsOwn.no_struct {u = u} {fs = fs} h) = struct_unread rd u fs n h
own_unread rd _ n (IsOwn.of_keys {u = u} {fs = fs} {es = es} is h) = no_members rd u fs n es is (keys_unread rd u fs es h)
own_unread rd _ n (IsOwn.no_variant {vs = vs} h) = enum_unread rd vs n h
