-- The variants of an enum, and what each holds, read from a node.
use Rattle.std.proofs.Common.{◌≡◌, ℕ, Bool, true, false, ◌&&◌, List, Option, Some, None, refl, sym, ap, ◌∙◌, inl, inr}
use Rattle.std.specs.Prelude.{cond, if◌then◌else◌}
use Rattle.std.specs.Option.{option_map, option_and_then}
use Rattle.std.specs.Str.{bytes_eq, is_utf8}
use Rattle.std.proofs.lemmas.Bool.{cases_Bool}
use Rattle.std.proofs.lemmas.Slice.Eq.{bytes_eq-Decides}
use Rattle.qs_spec.specs.Data as d
use Rattle.qs_spec.specs.Data.{Data, Members, Values, Named, members_of, values_of}
use Rattle.qs_spec.specs.Shape.{Shape, Field, Variant, VariantKind, Variants, no_variants, one_variant, unit_kind, newtype_kind, tuple_kind, struct_kind, UnknownKeys, fields_of, shapes_of, variants_of}
use Rattle.qs_spec.specs.Segment.{Segment, segment_text}
use Rattle.qs_spec.specs.Tree.{Tree, Entries}
use Rattle.qs_spec.specs.Tree.Tree.{mapping}
use Rattle.qs_spec.specs.Tree.Entries.{entry}
use Rattle.qs_spec.specs.Node.{as_map, items, keys_are_allowed}
use Rattle.qs_spec.specs.internal.ReadFunction.{read_enum, reads, reads_names, reads_places, reads_tuple, reads_variant, struct_members}
use Rattle.qs_data.specs.read.TreeText.{entries_are_text, is_text}
use Rattle.qs_data.proofs.lemmas.read.Errors.{and_left}
use Rattle.serde_qs.specs.Held.{by_shapes, kind_held, variant_held}
use Rattle.serde_qs.specs.Records.{first_of, others_of}
use Rattle.serde_qs.specs.Tuples.{tuple_variant_in}
use Rattle.serde_qs.specs.Variants.{last_shape, last_in, name_in, newtype_variant_in, struct_variant_in, unit_variant_in, variant_shape, variant_in}
use Rattle.serde_qs.specs.declared.compound.variants.OneOf.TheVariants.{First, Later}
use Rattle.serde_qs.specs.internal.NodeParts.{members_read}
use Rattle.serde_qs.proofs.NodeTuples.{tuple_items}

-- the first of some variants has this name, or one after it has

held_one : (reject_duplicates : Bool) (n : List ℕ) (k : VariantKind) (vs : Variants) (name : List ℕ) (o : Option Tree)
    → variant_held reject_duplicates (one_variant n k vs) name o ≡ cond (bytes_eq n name) (kind_held reject_duplicates k n o) (variant_held reject_duplicates vs name o)
unfolding reads
held_one reject_duplicates n k vs name None = refl
held_one reject_duplicates n k vs name (Some t) = refl

held_none : (reject_duplicates : Bool) (name : List ℕ) (o : Option Tree) → variant_held reject_duplicates no_variants name o ≡ None
unfolding reads
held_none reject_duplicates name None = refl
held_none reject_duplicates name (Some t) = refl

-- the data of a variant have its name

made_named : {A : Type 0} (n : List ℕ) (f : A → Data) → ((a : A) → name_in (f a) ≡ n) → (o : Option A) (x : Data) → option_map f o ≡ Some x → name_in x ≡ n
made_named n f h None x e = absurd cc
made_named n f h (Some a) x e = let is : f a ≡ x = cc in ap name_in (sym is) ∙ h a

kind_named : (reject_duplicates : Bool) (k : VariantKind) (n : List ℕ) (o : Option Tree) (x : Data) → kind_held reject_duplicates k n o ≡ Some x → name_in x ≡ n
unfolding reads
kind_named reject_duplicates unit_kind n None x e = made_named n (λ (u : Unit {0}). d.unit_variant n) (λ u. refl) (Some tt) x e
kind_named reject_duplicates unit_kind n (Some t) x e = made_named n (λ (u : Unit {0}). d.unit_variant n) (λ u. refl) (Some tt) x e
kind_named reject_duplicates (newtype_kind s) n None x e = absurd cc
kind_named reject_duplicates (newtype_kind s) n (Some t) x e = made_named n (d.newtype_variant n) (λ y. refl) (reads reject_duplicates s t) x e
kind_named reject_duplicates (tuple_kind ss) n None x e = absurd cc
kind_named reject_duplicates (tuple_kind ss) n (Some t) x e = made_named n (λ (ds : List Data). d.tuple_variant n (values_of ds)) (λ ds. refl) (option_and_then (reads_tuple reject_duplicates ss) (items t)) x e
kind_named reject_duplicates (struct_kind u fs) n None x e = absurd cc
kind_named reject_duplicates (struct_kind u fs) n (Some t) x e =
    made_named n (λ (ms : List Named). d.struct_variant n (members_of ms)) (λ ms. refl) (struct_members (keys_are_allowed u fs) (reads_names reject_duplicates fs) (reads_places reject_duplicates fs) (as_map t)) x e

held_named : (reject_duplicates : Bool) (vs : Variants) (name : List ℕ) (o : Option Tree) (x : Data) → variant_held reject_duplicates vs name o ≡ Some x → name_in x ≡ name
held_named reject_duplicates no_variants name o x e = absurd (let none : None ≡ Some x = sym (held_none reject_duplicates name o) ∙ e in cc)
held_named reject_duplicates (one_variant n k vs) name o x e = elim (cases_Bool (bytes_eq n name)) [
  | inl is ↦
      let here : kind_held reject_duplicates k n o ≡ Some x = sym (held_one reject_duplicates n k vs name o ∙ ap (λ b. cond b (kind_held reject_duplicates k n o) (variant_held reject_duplicates vs name o)) is) ∙ e in
      kind_named reject_duplicates k n o x here ∙ (bytes_eq-Decides n name).0 is
  | inr not ↦
      let later : variant_held reject_duplicates vs name o ≡ Some x = sym (held_one reject_duplicates n k vs name o ∙ ap (λ b. cond b (kind_held reject_duplicates k n o) (variant_held reject_duplicates vs name o)) not) ∙ e in
      held_named reject_duplicates vs name o x later
]

-- a test of the data's name, by the name that they have

tested : {V : Type 0} (o : Option Data) (n m : List ℕ) (b : Bool) → bytes_eq m n ≡ b → ((x : Data) → o ≡ Some x → name_in x ≡ m) → (f g : Data → Option V)
    → option_and_then (λ x. if bytes_eq (name_in x) n then f x else g x) o ≡ option_and_then (λ x. if b then f x else g x) o
tested None n m b is named f g = refl
tested (Some x) n m b is named f g = ap (λ c. if c then f x else g x) (ap (λ k. bytes_eq k n) (named x refl) ∙ is)

mapped : {A B : Type 0} (f : A → B) (m : Data → Option A) (o : Option Data) → option_and_then (λ x. option_map f (m x)) o ≡ option_map f (option_and_then m o)
mapped f m None = refl
mapped f m (Some x) = refl

own_name : (n : List ℕ) → bytes_eq n n ≡ true
own_name n = (bytes_eq-Decides n n).1 refl

swapped : (n m : List ℕ) → bytes_eq n m ≡ false → bytes_eq m n ≡ false
swapped n m h = elim (cases_Bool (bytes_eq m n)) [
  | inl is ↦ absurd (let bad : true ≡ false = sym ((bytes_eq-Decides n m).1 (sym ((bytes_eq-Decides m n).0 is))) ∙ h in cc)
  | inr not ↦ not
]

module _ {A : Type 0} (m : List (List ℕ) → Data → Option A) (kind : List (List ℕ) → VariantKind) (reject_duplicates : Bool) (names : List (List ℕ)) (name : List ℕ) (o : Option Tree)
    (own : List ℕ) (rest : List (List ℕ)) (is_first : own ≡ first_of names) (are_others : rest ≡ others_of names) where
  abbrev pub held : Option A
  held = option_and_then (m rest) (kind_held reject_duplicates (kind rest) own o)

  same : bytes_eq own name ≡ bytes_eq (first_of names) name
  same = ap (λ n. bytes_eq n name) is_first

  at_names : held ≡ option_and_then (m (others_of names)) (kind_held reject_duplicates (kind (others_of names)) (first_of names) o)
  at_names = ap (λ ns. option_and_then (m ns) (kind_held reject_duplicates (kind ns) own o)) are_others ∙ ap (λ n. option_and_then (m (others_of names)) (kind_held reject_duplicates (kind (others_of names)) n o)) is_first

  pub last_here : bytes_eq own name ≡ true → option_and_then (last_in m names) (variant_held reject_duplicates (variants_of (last_shape kind names)) name o) ≡ held
  last_here is =
      let n = first_of names in
      let k = kind (others_of names) in
      ap (option_and_then (last_in m names)) (held_one reject_duplicates n k no_variants name o ∙ ap (λ b. cond b (kind_held reject_duplicates k n o) (variant_held reject_duplicates no_variants name o)) (sym same ∙ is))
      ∙ tested (kind_held reject_duplicates k n o) n n true (own_name n) (kind_named reject_duplicates k n o) (m (others_of names)) (λ x. None)
      ∙ sym at_names

  pub last_other : bytes_eq own name ≡ false → option_and_then (last_in m names) (variant_held reject_duplicates (variants_of (last_shape kind names)) name o) ≡ None
  last_other not =
      let n = first_of names in
      let k = kind (others_of names) in
      ap (option_and_then (last_in m names)) (held_one reject_duplicates n k no_variants name o ∙ ap (λ b. cond b (kind_held reject_duplicates k n o) (variant_held reject_duplicates no_variants name o)) (sym same ∙ not) ∙ held_none reject_duplicates name o)

  module _ {B : Type 0} (after : List (List ℕ) → List (List ℕ)) (shape : List (List ℕ) → List Variant) (others : List (List ℕ) → Data → Option B) (more : List (List ℕ)) (are_more : more ≡ after rest) where
    abbrev pub later_held : Option B
    later_held = option_and_then (others more) (variant_held reject_duplicates (variants_of (shape more)) name o)

    are_after : more ≡ after (others_of names)
    are_after = are_more ∙ ap after are_others

    pub first_here : bytes_eq own name ≡ true → option_and_then (variant_in m after others names) (variant_held reject_duplicates (variants_of (variant_shape kind after shape names)) name o) ≡ option_map First held
    first_here is =
        let n = first_of names in
        let k = kind (others_of names) in
        let vs = variants_of (shape (after (others_of names))) in
        ap (option_and_then (variant_in m after others names)) (held_one reject_duplicates n k vs name o ∙ ap (λ b. cond b (kind_held reject_duplicates k n o) (variant_held reject_duplicates vs name o)) (sym same ∙ is))
        ∙ tested (kind_held reject_duplicates k n o) n n true (own_name n) (kind_named reject_duplicates k n o) (λ x. option_map First (m (others_of names) x)) (λ x. option_map Later (others (after (others_of names)) x))
        ∙ mapped First (m (others_of names)) (kind_held reject_duplicates k n o)
        ∙ ap (option_map First) (sym at_names)

    pub first_other : bytes_eq own name ≡ false → option_and_then (variant_in m after others names) (variant_held reject_duplicates (variants_of (variant_shape kind after shape names)) name o) ≡ option_map Later later_held
    first_other not =
        let n = first_of names in
        let k = kind (others_of names) in
        let vs = variants_of (shape (after (others_of names))) in
        let differ : bytes_eq n name ≡ false = sym same ∙ not in
        ap (option_and_then (variant_in m after others names)) (held_one reject_duplicates n k vs name o ∙ ap (λ b. cond b (kind_held reject_duplicates k n o) (variant_held reject_duplicates vs name o)) differ)
        ∙ tested (variant_held reject_duplicates vs name o) n name false (swapped n name differ) (held_named reject_duplicates vs name o) (λ x. option_map First (m (others_of names) x)) (λ x. option_map Later (others (after (others_of names)) x))
        ∙ mapped Later (others (after (others_of names))) (variant_held reject_duplicates vs name o)
        ∙ ap (λ ns. option_map Later (option_and_then (others ns) (variant_held reject_duplicates (variants_of (shape ns)) name o))) (sym are_after)

-- what each kind of variant holds

pub unit_held : (reject_duplicates : Bool) (n : List ℕ) (o : Option Tree) → option_and_then unit_variant_in (kind_held reject_duplicates unit_kind n o) ≡ Some tt
unfolding reads
unit_held reject_duplicates n None = refl
unit_held reject_duplicates n (Some t) = refl

-- data that are made of what they mean
inside : {A V : Type 0} (made : A → Data) (seen : Data → Option V) (m : A → Option V) → ((a : A) → seen (made a) ≡ m a) → (o : Option A) → option_and_then seen (option_map made o) ≡ option_and_then m o
inside made seen m h None = refl
inside made seen m h (Some a) = h a

pub newtype_held : {V : Type 0} (m : Data → Option V) (reject_duplicates : Bool) (s : Shape) (n : List ℕ) (o : Option Tree)
    → option_and_then (newtype_variant_in m) (kind_held reject_duplicates (newtype_kind s) n o) ≡ option_and_then (λ t. option_and_then m (reads reject_duplicates s t)) o
unfolding reads
newtype_held m reject_duplicates s n None = refl
newtype_held m reject_duplicates s n (Some t) = inside (d.newtype_variant n) (newtype_variant_in m) m (λ x. refl) (reads reject_duplicates s t)

pub tuple_held : {V : Type 0} (m : Values → Option V) (reject_duplicates : Bool) (shape : List Shape) (n : List ℕ) (o : Option Tree)
    → option_and_then (tuple_variant_in m) (kind_held reject_duplicates (tuple_kind (shapes_of shape)) n o) ≡ option_and_then (by_shapes reject_duplicates shape m) (option_and_then items o)
unfolding reads
tuple_held m reject_duplicates shape n None = refl
tuple_held m reject_duplicates shape n (Some t) = tuple_items (tuple_variant_in m) (d.tuple_variant n) m (λ ds. refl) reject_duplicates shape (items t)

pub struct_held : {V : Type 0} (m : Members → Option V) (u : UnknownKeys) (reject_duplicates : Bool) (fs : List Field) (n : List ℕ) (o : Option Tree)
    → option_and_then (struct_variant_in m) (kind_held reject_duplicates (struct_kind u (fields_of fs)) n o) ≡ option_and_then (λ t. members_read u reject_duplicates fs m (as_map t)) o
unfolding reads
struct_held m u reject_duplicates fs n None = refl
struct_held m u reject_duplicates fs n (Some t) =
    inside (λ (ms : List Named). d.struct_variant n (members_of ms)) (struct_variant_in m) (λ ms. m (members_of ms)) (λ ms. refl)
    (struct_members (keys_are_allowed u (fields_of fs)) (reads_names reject_duplicates (fields_of fs)) (reads_places reject_duplicates (fields_of fs)) (as_map t))

-- an enum, by the text of a node, and by the smallest key of a map

module _ (reject_duplicates : Bool) (vs : Variants) where
  pub enum_of_key : (es more : Entries) (k : Segment) (escaped : Bool) (t : Tree) → es ≡ entry k escaped t more → reads reject_duplicates (Shape.enumeration vs) (mapping es) ≡ reads_variant reject_duplicates vs (segment_text k) t
  unfolding reads read_enum
  enum_of_key es more k escaped t least = ap (λ ys. reads reject_duplicates (Shape.enumeration vs) (mapping ys)) least

pub key_not_text : (es more : Entries) (k : Segment) (escaped : Bool) (t : Tree) → es ≡ entry k escaped t more → (is_utf8 (segment_text k) && is_text t) ≡ false → entries_are_text es ≡ false
key_not_text es more k escaped t least f = ap entries_are_text least ∙ and_left (is_utf8 (segment_text k) && is_text t) (entries_are_text more) f
