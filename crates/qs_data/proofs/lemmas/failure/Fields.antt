-- The failure of a field, of a value of a map or of what a variant holds, as the failure of the whole.
use Rattle.qs_data.proofs.Common.{◌≡◌, ◌∙◌, ℕ, ◌+◌, ◌<◌, zero, suc, Bool, true, false, List, [], ◌∷◌, length, get_or, drop, slice_get, arith, Option, Some, None, refl, sym, ap, subst, inl, inr, ◌⊎◌, Segment, ParsedSegment, segment_text, Shape, Fields, Variants, is_option, Tree, Entries, leaf, mapping, entry, no_entries, found, field_of, fields_in, shape_of, shapes_in, entry_list, entries_after, first_item, variant_named, keys_are_allowed, under_empty, keys_are_text, ReadRejects, Rejects, Reader, KeyShape, key_data, read_pairs, with_front, option_map, option_and_then}
use Rattle.qs_spec.specs.Leaf.Leaf.{NoValue, Null}
use Rattle.qs_spec.specs.Segment.Segment.{Int, Str}
use Rattle.qs_spec.specs.Shape.{UnknownKeys, Variant, VariantKind}
use Rattle.qs_data.specs.declared.failure.failure.Failure.{Failure}
use Rattle.qs_data.specs.declared.failure.failure.Failure.TheVariants.{Unread, OutOfMemory}
use Rattle.qs_data.specs.declared.shape.shape.Field.{Field}
use Rattle.qs_data.specs.declared.shape.shape.Shape as shape
use Rattle.qs_data.specs.failure.Fails.{Fails}
use Rattle.qs_data.specs.failure.Mismatch.{IsMismatch, IsProblem, path_of}
use Rattle.qs_data.specs.failure.Own.{IsOfKeys, IsOwn, names_variant}
use Rattle.qs_data.specs.failure.Unexpected.{unexpected_key}
use Rattle.qs_data.specs.failure.Fails.{error_in}
use Rattle.qs_data.specs.failure.Parts.{HasEntry, HasField, IsFieldOf, IsHeld, IsNamed, IsPlaced, IsValue, Leads, field_at, field_keys, shape_at}
use Rattle.qs_data.specs.failure.internal.Failing.{FailsField, FailsFields, FailsHeld, FailsIn, IsBelow, IsHere, IsKeysOwn, IsMissing, IsNotMemory, IsPlacedAt, IsTwice, IsUnder, SaysKey}
use Rattle.qs_data.specs.declared.read.error.ReadError.{ReadError}
use Rattle.qs_data.proofs.lemmas.failure.Failures.{into, rejected_here, unread_by, weaken}
use Rattle.qs_data.proofs.lemmas.failure.Kinds.{key_here, unnamed_key}
use Rattle.qs_data.proofs.lemmas.read.Variants.{not_named}
use Rattle.std.specs.Option.{is_some}
use Rattle.qs_spec.specs.Data.{Data}
use Rattle.qs_data.proofs.lemmas.failure.Unread.{own_unread}
use Rattle.qs_data.proofs.lemmas.read.Entries.{after_some}

-- a field of a list is one of its fields
has_field : (fs : List Field) (i : ℕ) (d : Field) → i < length fs → d ≡ get_or fs i d → HasField (field_of d).0 (field_of d).1 (field_of d).2 (fields_in fs)
has_field [] i d here is = absurd (omega arith)
has_field (e ∷ fs) zero d here is = subst (λ (x : Field). HasField (field_of x).0 (field_of x).1 (field_of x).2 (fields_in (e ∷ fs))) (sym is) HasField.first
has_field (e ∷ fs) (suc i) d here is = HasField.later (has_field fs i d (omega arith) is)

pub at_field : (fs : List Field) (i : ℕ) (d : Field) → i < length fs → d ≡ get_or fs i d → field_at i (fields_in fs) ≡ Some ((field_of d).0, (field_of d).1, (field_of d).2)
at_field [] i d here is = absurd (omega arith)
at_field (e ∷ fs) zero d here is = ap (λ (x : Field). Some ((field_of x).0, (field_of x).1, (field_of x).2)) (sym is)
at_field (e ∷ fs) (suc i) d here is = at_field fs i d (omega arith) is

pub at_shape : (ss : List shape.Shape) (i : ℕ) (d : shape.Shape) → i < length ss → d ≡ get_or ss i d → shape_at i (shapes_in ss) ≡ Some (shape_of d)
at_shape [] i d here is = absurd (omega arith)
at_shape (e ∷ ss) zero d here is = ap (λ (x : shape.Shape). Some (shape_of x)) (sym is)
at_shape (e ∷ ss) (suc i) d here is = at_shape ss i d (omega arith) is

-- an entry of a map is one of its entries
entry_after : (i : ℕ) (es : Entries) (key : Segment) (n : Tree) → HasEntry key n (entries_after i es) → HasEntry key n es
entry_after zero es key n h = h
entry_after (suc i) no_entries key n h = h
entry_after (suc i) (entry k e t es) key n h = HasEntry.later (entry_after i es key n h)

pub has_entry : (i : ℕ) (es : Entries) (x : ParsedSegment × Tree) → slice_get (entry_list es) i ≡ Some x → HasEntry x.0.segment x.1 es
has_entry i es x h = entry_after i es x.0.segment x.1 (subst (HasEntry x.0.segment x.1) (sym (after_some i es x h)) HasEntry.first)

pub lone_entry : (n : Tree) → HasEntry (Str []) n (under_empty n)
lone_entry n = HasEntry.first

-- a field by its name
pub field_fails : (rd : Bool) (u : UnknownKeys) (fs : Fields) (name : List ℕ) (s : Shape) (o : Bool) (es : Entries) (f : Failure) → FailsIn rd (IsNamed name s o es) f → FailsField rd u fs name s o es f
field_fails rd u fs name s o es (Unread b) w = inl w
field_fails rd u fs name s o es OutOfMemory w = tt

pub missing_fails : (rd : Bool) (u : UnknownKeys) (fs : Fields) (name : List ℕ) (s : Shape) (o : Bool) (es : Entries) (f : Failure) → found name es ≡ [] → FailsIn rd (IsMissing name s o) f → FailsField rd u fs name s o es f
missing_fails rd u fs name s o es f none w = field_fails rd u fs name s o es f (weaken rd (IsMissing name s o) (IsNamed name s o es) f (named name s o es none) w) where
  named : (name : List ℕ) (s : Shape) (o : Bool) (es : Entries) → found name es ≡ [] → (key : Segment) (t : Shape) (n : Tree) → IsMissing name s o key t n → IsNamed name s o es key t n
  named name s o es none _ _ _ (IsMissing.missing a b) = IsNamed.missing_field a b none

pub twice_fails : (rd : Bool) (u : UnknownKeys) (fs : Fields) (name : List ℕ) (s : Shape) (o : Bool) (es : Entries) (e : ReadError) (f : Failure) → IsTwice name es → IsHere (Shape.struct u fs) (mapping es) e f → FailsField rd u fs name s o es f
twice_fails rd u fs name s o es e (Unread b) two h = inr (two, h.1, h.2)
twice_fails rd u fs name s o es e OutOfMemory two h = tt

-- one of the fields
pub fields_fail : (rd : Bool) (u : UnknownKeys) (ds : List Field) (i : ℕ) (d : Field) (all : Fields) (es : Entries) (f : Failure) → i < length ds → d ≡ get_or ds i d → all ≡ fields_in ds
    → FailsField rd u all (field_of d).0 (field_of d).1 (field_of d).2 es f → FailsFields rd u all es f
fields_fail rd u ds i d all es (Unread b) here is same (inl w) = inl (record {
  key = w.key;
  part = w.part;
  node = w.node;
  inner = w.inner;
  path = w.path;
  problem = w.problem;
  below = w.below;
  is_part = IsFieldOf.named (subst (HasField (field_of d).0 (field_of d).1 (field_of d).2) (sym same) (has_field ds i d here is)) w.is_part;
})
fields_fail rd u ds i d all es (Unread b) here is same (inr w) =
    inr (IsOfKeys.two_keys (subst (HasField (field_of d).0 (field_of d).1 (field_of d).2) (sym same) (has_field ds i d here is)) w.0.is, w.1, w.2)
fields_fail rd u ds i d all es OutOfMemory here is same w = tt

pub keys_fail : (rd : Bool) (u : UnknownKeys) (fs : Fields) (es : Entries) (e : ReadError) (f : Failure) → IsHere (Shape.struct u fs) (mapping es) e f → keys_are_allowed u fs es ≡ false → FailsFields rd u fs es f
keys_fail rd u fs es e (Unread b) h not = inr (IsOfKeys.other_key not, h.1, h.2)
keys_fail rd u fs es e OutOfMemory h not = tt

pub keys_rejected : {Y : Type 0} (rd : Bool) (u : UnknownKeys) (fs : Fields) (es : Entries) (t : Bool) (e : ReadError) (a : Option Y) (f : Failure)
    → IsHere (Shape.struct u fs) (mapping es) e f → ReadRejects t e a → (a ≡ None → keys_are_allowed u fs es ≡ false) → FailsFields rd u fs es f
keys_rejected rd u fs es t e a (Unread b) h g not = inr (IsOfKeys.other_key (not (unread_by t e a h.0.1 g)), h.1, h.2)
keys_rejected rd u fs es t e a OutOfMemory h g not = tt

-- the fields of a map, and of a node without a value
field_step : (u : UnknownKeys) (fs : Fields) (n : Tree) (es : Entries) → field_keys n ≡ Some es → (key : Segment) (path : List Segment) (t part : Shape) (m node : Tree)
    → IsFieldOf fs es key t m → Leads path t m part node → Leads (key ∷ path) (Shape.struct u fs) n part node
field_step u fs n es is key path t part m node p l = Leads.in_field is p l

pub in_keys : (rd : Bool) (u : UnknownKeys) (fs : Fields) (es : Entries) (f : Failure) → FailsFields rd u fs es f → Fails rd (Shape.struct u fs) (mapping es) f
in_keys rd u fs es (Unread b) (inl w) = into rd (Shape.struct u fs) (mapping es) (IsFieldOf fs es) (Unread b) (field_step u fs (mapping es) es refl) w
in_keys rd u fs es (Unread b) (inr w) =
    let own : IsOwn rd (Shape.struct u fs) (mapping es) = IsOwn.of_keys refl w.0 in
    record {
      part = Shape.struct u fs;
      node = mapping es;
      unread = own_unread rd (Shape.struct u fs) (mapping es) own;
      own = own;
      problem = w.2;
      leads = subst (λ p. Leads p (Shape.struct u fs) (mapping es) (Shape.struct u fs) (mapping es)) (sym w.1) Leads.here;
    }
in_keys rd u fs es OutOfMemory w = tt

no_fault : (u : UnknownKeys) (fs : Fields) → IsOfKeys u fs no_entries → ⊥
no_fault u fs (IsOfKeys.two_keys w is) = absurd cc
no_fault u fs (IsOfKeys.other_key not) = absurd cc

in_empty : (rd : Bool) (u : UnknownKeys) (fs : Fields) (n : Tree) (f : Failure) → field_keys n ≡ Some no_entries → FailsFields rd u fs no_entries f → Fails rd (Shape.struct u fs) n f
in_empty rd u fs n (Unread b) is (inl w) = into rd (Shape.struct u fs) n (IsFieldOf fs no_entries) (Unread b) (field_step u fs n no_entries is) w
in_empty rd u fs n (Unread b) is (inr w) = absurd (no_fault u fs w.0)
in_empty rd u fs n OutOfMemory is w = tt

pub in_no_value : (rd : Bool) (u : UnknownKeys) (fs : Fields) (f : Failure) → FailsFields rd u fs no_entries f → Fails rd (Shape.struct u fs) (leaf NoValue) f
in_no_value rd u fs f w = in_empty rd u fs (leaf NoValue) f refl w

pub in_null_struct : (rd : Bool) (u : UnknownKeys) (fs : Fields) (f : Failure) → FailsFields rd u fs no_entries f → Fails rd (Shape.struct u fs) (leaf Null) f
in_null_struct rd u fs f w = in_empty rd u fs (leaf Null) f refl w

-- one of the fields by its index
pub places_fail : (rd : Bool) (ds : List Field) (i : ℕ) (d : Field) (all : Fields) (xs : List (Option Tree)) (f : Failure) → i < length ds → d ≡ get_or ds i d → all ≡ fields_in ds
    → FailsIn rd (IsPlacedAt i (field_of d).1 (field_of d).2 xs) f → FailsIn rd (IsPlaced all xs) f
places_fail rd ds i d all xs f here is same w = weaken rd (IsPlacedAt i (field_of d).1 (field_of d).2 xs) (IsPlaced all xs) f (placed i all xs (field_of d).0 (field_of d).1 (field_of d).2 (ap (field_at i) same ∙ at_field ds i d here is)) w where
  placed : (i : ℕ) (all : Fields) (xs : List (Option Tree)) (name : List ℕ) (s : Shape) (o : Bool) → field_at i all ≡ Some (name, s, o) → (key : Segment) (t : Shape) (n : Tree) → IsPlacedAt i s o xs key t n → IsPlaced all xs key t n
  placed i all xs name s o at _ _ _ (IsPlacedAt.placed_field h) = IsPlaced.placed_field at h
  placed i all xs name s o at _ _ _ (IsPlacedAt.field_beyond none h) = IsPlaced.field_beyond (at ∙ ap (λ b. Some (name, s, b)) none) h

-- what a variant holds
pub in_variant : (rd : Bool) (vs : Variants) (es more : Entries) (key : Segment) (escaped : Bool) (n : Tree) (v : Variant) (f g : Failure) → es ≡ entry key escaped n more → variant_named (segment_text key) vs ≡ Some v
    → IsUnder key f g → FailsHeld rd v.1 n f → Fails rd (Shape.enumeration vs) (mapping es) g
in_variant rd vs es more key escaped n v f OutOfMemory least named u w = tt
in_variant rd vs es more key escaped n v (Unread b) (Unread d) least named u w =
    let m = w.below in
    record {
      part = m.part;
      node = m.node;
      unread = m.unread;
      own = m.own;
      leads = subst (λ p. Leads p (Shape.enumeration vs) (mapping es) m.part m.node) (sym u.1)
          (subst (λ x. Leads (key ∷ path_of b.value.mismatch) (Shape.enumeration vs) (mapping x) m.part m.node) (sym least) (Leads.in_variant named w.is_held m.leads));
      problem = subst (λ p. IsProblem p m.part m.node) (sym u.2) m.problem;
    }
in_variant rd vs es more key escaped n v OutOfMemory (Unread d) least named u w = absurd u

pub holds : (rd : Bool) (kind : VariantKind) (n : Tree) (s : Shape) (m : Tree) (f : Failure) → IsHeld kind n s m → Fails rd s m f → FailsHeld rd kind n f
holds rd kind n s m (Unread b) is w = record { part = s; node = m; is_held = is; below = w }
holds rd kind n s m OutOfMemory is w = tt

-- a map whose first key names no variant
pub key_rejects : {Y : Type 0} (t : Bool) (key : Segment) (s : Shape) (e : ReadError) (f : Failure) (a : Option Y) → SaysKey key s e f → ReadRejects t e a → Rejects t (error_in f) a
key_rejects t key s e (Unread b) a h g = subst (λ x. ReadRejects t x a) (sym h.0.0) g
key_rejects t key s e OutOfMemory a h g = tt

pub unnamed_fails : (rd : Bool) (vs : Variants) (n : Tree) (es more : Entries) (key : Segment) (escaped : Bool) (m : Tree) (t : Bool) (e : ReadError) (f : Failure)
    → n ≡ mapping es → es ≡ entry key escaped m more → SaysKey key (Shape.enumeration vs) e f → ReadRejects t e (option_map Some (variant_named (segment_text key) vs)) → Fails rd (Shape.enumeration vs) n f
unnamed_fails rd vs n es more key escaped m t e f is least h g =
    let s = Shape.enumeration vs in
    let named = option_map Some (variant_named (segment_text key) vs) in
    let first : n ≡ mapping (entry key escaped m more) = is ∙ ap mapping least in
    let none = λ (none : named ≡ None). not_named (variant_named (segment_text key) vs) none in
    rejected_here rd s n t e named f
    (key_here key s n e f h (λ not. ap (unexpected_key s) first ∙ unnamed_key vs key escaped m more (none (unread_by t e named not g))))
    g (λ no. IsOwn.no_variant (ap (names_variant vs) first ∙ ap is_some (none no)))

-- a value under the empty key that isn't read
pub lone_no_value : (k : KeyShape) (r : Reader) (t : Tree) → r t ≡ None → read_pairs k r (under_empty t) ≡ None
lone_no_value k r t h = ap (λ v. option_and_then (λ a. option_and_then (λ d. with_front {A = Data × Data} (a, d) (Some [])) v) (key_data k [])) h ∙ no_pair (key_data k []) where
  no_pair : (key : Option Data) → option_and_then (λ a. option_and_then (λ (d : Data). with_front {A = Data × Data} (a, d) (Some [])) None) key ≡ None
  no_pair None = refl
  no_pair (Some a) = refl
