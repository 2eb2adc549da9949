-- The variant of a name.
use Rattle.qs_data.proofs.Common.{◌≡◌, ℕ, ◌+◌, ◌<◌, Bool, true, false, ◌&&◌, cond, List, ◌∷◌, Option, Some, None, drop, length, get_or, slice_get, refl, sym, ap, ◌∙◌, rules, inl, inr, string_bytes, option_map, option_and_then, bytes_eq, cases_Bool, drop_more, Global, Segment, segment_text, Variants, no_variants, one_variant, Tree, Entries, mapping, entry, as_map, under_empty, reads_variant, reads_kind, unit_variant_data, is_unit_kind, tree_of, variant_of, variants_in, kind_of, is_text, entries_are_text, variant_named, slice_get-get_or}
use Rattle.std.proofs.Math.Bool.{and-true}
use Rattle.std.specs.declared.borrow.CowSlice.{CowSlice}
use Rattle.std.specs.declared.borrow.CowSlice.TheVariants.{Borrowed, Owned}
use Rattle.qs_spec.specs.Data.{Data}
use Rattle.qs_spec.specs.internal.ReadFunction.{read_enum, reads}
use Rattle.qs_tree.specs.declared.tree.value.ParsedValue as value
use Rattle.qs_data.specs.declared.shape.shape.Variant as v
use Rattle.qs_data.specs.declared.shape.shape.Variant.{Variant, out-Variant}
use Rattle.qs_data.proofs.lemmas.read.Numbers.{empty_text}

pub variant_name : (d : Variant) → (variant_of d).0 ≡ string_bytes (out-Variant d).name
variant_name d = search (rules, v.the_lemmas)

pub variant_kind : (d : Variant) → (variant_of d).1 ≡ kind_of (out-Variant d).kind
variant_kind d = search (rules, v.the_lemmas)

-- one more variant
module _ (name : List ℕ) (vs : List Variant) (i : ℕ) (d : Variant) (here : i < length vs) (is : d ≡ get_or vs i d) where
  named_at : variant_named name (variants_in (drop i vs)) ≡ cond (bytes_eq (variant_of d).0 name) (Some (variant_of d)) (variant_named name (variants_in (drop (i + 1) vs)))
  named_at = ap (λ ys. variant_named name (variants_in ys)) (drop_more vs i d here ∙ ap (λ y. y ∷ drop (i + 1) vs) (sym is))

  pub named_here : bytes_eq (string_bytes (out-Variant d).name) name ≡ true → option_map Some (variant_named name (variants_in (drop i vs))) ≡ Some (option_map variant_of (slice_get vs i))
  named_here e =
      ap (option_map Some) named_at
      ∙ ap (λ b. option_map Some (cond b (Some (variant_of d)) (variant_named name (variants_in (drop (i + 1) vs))))) (ap (λ n. bytes_eq n name) (variant_name d) ∙ e)
      ∙ ap (λ r. Some (option_map variant_of r)) (ap Some is ∙ sym (slice_get-get_or vs i d here))

  pub named_later : bytes_eq (string_bytes (out-Variant d).name) name ≡ false → variant_named name (variants_in (drop i vs)) ≡ variant_named name (variants_in (drop (i + 1) vs))
  named_later e = named_at ∙ ap (λ b. cond b (Some (variant_of d)) (variant_named name (variants_in (drop (i + 1) vs)))) (ap (λ n. bytes_eq n name) (variant_name d) ∙ e)

-- what the variant of a name reads
pub reads_named : (reject_duplicates : Bool) (vs : Variants) (name : List ℕ) (t : Tree) → reads_variant reject_duplicates vs name t ≡ option_and_then (λ x. reads_kind reject_duplicates x.1 x.0 t) (variant_named name vs)
unfolding reads
reads_named reject_duplicates no_variants name t = refl
reads_named reject_duplicates (one_variant n k vs) name t = elim (cases_Bool (bytes_eq n name)) [
  | inl is ↦ rw is
  | inr not ↦ rw not (reads_named reject_duplicates vs name t)
]

-- what the variant of a name is without a value
pub unit_named : (vs : Variants) (name : List ℕ) → unit_variant_data vs name ≡ option_and_then (λ x. cond (is_unit_kind x.1) (Some (Data.unit_variant x.0)) None) (variant_named name vs)
unit_named no_variants name = refl
unit_named (one_variant n k vs) name = elim (cases_Bool (bytes_eq n name)) [
  | inl is ↦ rw is
  | inr not ↦ rw not (unit_named vs name)
]

some_some : {A : Type 0} (o : Option A) (x : A) → option_map Some o ≡ Some (Some x) → o ≡ Some x
some_some None x h = absurd cc
some_some (Some y) x h = let e : y ≡ x = cc in ap Some e

pub not_named : {A : Type 0} (o : Option A) → option_map Some o ≡ None → o ≡ None
not_named None h = refl
not_named (Some y) h = absurd cc

-- the variant at the place that was found
pub named_is : (name : List ℕ) (vs : List Variant) (i : ℕ) (d : Variant) → option_map Some (variant_named name (variants_in vs)) ≡ Some (option_map variant_of (slice_get vs i)) → i < length vs → d ≡ get_or vs i d
    → variant_named name (variants_in vs) ≡ Some (variant_of d)
named_is name vs i d h here is =
    some_some (variant_named name (variants_in vs)) (variant_of d) (h ∙ ap (λ r. Some (option_map variant_of r)) (slice_get-get_or vs i d here ∙ ap Some (sym is)))

-- what the name of a variant is without a value
pub unit_at : (name : List ℕ) (vs : List Variant) (d : Variant) → variant_named name (variants_in vs) ≡ Some (variant_of d)
    → unit_variant_data (variants_in vs) name ≡ cond (is_unit_kind (kind_of (out-Variant d).kind)) (Some (Data.unit_variant (string_bytes (out-Variant d).name))) None
unit_at name vs d h =
    unit_named (variants_in vs) name ∙ ap (option_and_then (λ x. cond (is_unit_kind x.1) (Some (Data.unit_variant x.0)) None)) h
    ∙ ap (λ k. cond (is_unit_kind k) (Some (Data.unit_variant (variant_of d).0)) None) (variant_kind d)
    ∙ ap (λ n. cond (is_unit_kind (kind_of (out-Variant d).kind)) (Some (Data.unit_variant n)) None) (variant_name d)

pub no_unit : (name : List ℕ) (vs : List Variant) → option_map Some (variant_named name (variants_in vs)) ≡ None → unit_variant_data (variants_in vs) name ≡ None
no_unit name vs h = unit_named (variants_in vs) name ∙ ap (option_and_then (λ x. cond (is_unit_kind x.1) (Some (Data.unit_variant x.0)) None)) (not_named (variant_named name (variants_in vs)) h)

-- what an enum reads of a map whose first entry is known
module _ (reject_duplicates : Bool) (vs : Variants) (es more : Entries) (k : Segment) (m : Bool) (t : Tree) (least : es ≡ entry k m t more) where
  enum_at : read_enum vs (reads_variant reject_duplicates vs) (mapping es) ≡ option_and_then (λ x. reads_kind reject_duplicates x.1 x.0 t) (variant_named (segment_text k) vs)
  unfolding read_enum
  enum_at = ap (λ x. read_enum vs (reads_variant reject_duplicates vs) (mapping x)) least ∙ reads_named reject_duplicates vs (segment_text k) t

  pub enum_none : option_map Some (variant_named (segment_text k) vs) ≡ None → read_enum vs (reads_variant reject_duplicates vs) (mapping es) ≡ None
  enum_none h = enum_at ∙ ap (option_and_then (λ x. reads_kind reject_duplicates x.1 x.0 t)) (not_named (variant_named (segment_text k) vs) h)

  pub enum_some : (d : Variant) → variant_named (segment_text k) vs ≡ Some (variant_of d) → read_enum vs (reads_variant reject_duplicates vs) (mapping es) ≡ reads_kind reject_duplicates (variant_of d).1 (variant_of d).0 t
  enum_some d h = enum_at ∙ ap (option_and_then (λ x. reads_kind reject_duplicates x.1 x.0 t)) h

-- a text as a map
pub text_as_map : (c : CowSlice ℕ Global) → as_map (tree_of (value.String c)) ≡ mapping (under_empty (tree_of (value.String c)))
text_as_map (Borrowed r) = search (rules, value.the_lemmas)
text_as_map (Owned v) = search (rules, value.the_lemmas)

pub under_bad : (t : Tree) → entries_are_text (under_empty t) ≡ false → is_text t ≡ false
under_bad t h = sym (and-true (is_text t)) ∙ sym (ap (λ b. (b && is_text t) && true) empty_text) ∙ h
