-- Variants and their names.
use Rattle.std.proofs.Common.{◌≡◌, ℕ, Bool, true, false, cond, ◌||◌, not, List, Some, None, refl, sym, ap, ◌∙◌}
use Rattle.std.specs.Str.{bytes_eq}
use Rattle.qs_spec.specs.Tree.{Tree}
use Rattle.qs_spec.specs.Data.{Data}
use Rattle.qs_spec.specs.Shape.{Variants, VariantKind, unit_kind, is_variant_name, variant_names_differ, are_distinct_variants, is_distinct_kind}
use Rattle.qs_spec.specs.internal.ReadFunction.{is_unit_kind, unit_variant_data, reads_variant, reads_kind}
use Rattle.qs_spec.specs.Relation.{HasVariant}
use Rattle.qs_spec.proofs.Booleans.{and_both, not_of}
use Rattle.std.proofs.lemmas.Slice.Eq.{bytes_eq-Decides}

pub bytes_same : (xs : List ℕ) → bytes_eq xs xs ≡ true
bytes_same xs = (bytes_eq-Decides xs xs).1 refl

pub bytes_equal : (xs ys : List ℕ) → bytes_eq xs ys ≡ true → xs ≡ ys
bytes_equal xs ys e = (bytes_eq-Decides xs ys).0 e

-- a variant that is there has its name among the names
name_there : {name : List ℕ} {kind : VariantKind} {vs : Variants} → HasVariant name kind vs → is_variant_name name vs ≡ true
name_there {name} (HasVariant.first {vs}) = ap (λ b. b || is_variant_name name vs) (bytes_same name)
name_there {name} (HasVariant.later {n} {k} {vs} h) = ap (λ b. bytes_eq n name || b) (name_there h) ∙ or_true (bytes_eq n name)
  where
    or_true : (b : Bool) → (b || true) ≡ true
    or_true true = refl
    or_true false = refl

-- where names differ, the first variant has another name than one after it
other_name : (n name : List ℕ) (kind : VariantKind) (vs : Variants) → is_variant_name n vs ≡ false → HasVariant name kind vs → bytes_eq n name ≡ false
other_name n name kind vs e h = by (bytes_eq n name) refl
  where
    by : (b : Bool) → bytes_eq n name ≡ b → bytes_eq n name ≡ false
    by false d = d
    by true d = let w = sym e ∙ ap (λ m. is_variant_name m vs) (bytes_equal n name d) ∙ name_there h in cc

-- the variant of a name is read on a value, and a unit variant as a text
pub variant_read : (reject_duplicates : Bool) (name : List ℕ) (kind : VariantKind) (vs : Variants) (t : Tree) → variant_names_differ vs ≡ true → HasVariant name kind vs → reads_variant reject_duplicates vs name t ≡ reads_kind reject_duplicates kind name t
unfolding reads_variant
variant_read reject_duplicates name kind _ t e (HasVariant.first {vs}) = ap (λ b. cond b (reads_kind reject_duplicates kind name t) (reads_variant reject_duplicates vs name t)) (bytes_same name)
variant_read reject_duplicates name kind _ t e (HasVariant.later {n} {k} {vs} h) =
    let p = and_both (not (is_variant_name n vs)) (variant_names_differ vs) e in
    ap (λ b. cond b (reads_kind reject_duplicates k n t) (reads_variant reject_duplicates vs name t)) (other_name n name kind vs (not_of (is_variant_name n vs) p.0) h) ∙ variant_read reject_duplicates name kind vs t p.1 h

pub unit_variant_read : (name : List ℕ) (vs : Variants) → variant_names_differ vs ≡ true → HasVariant name unit_kind vs → unit_variant_data vs name ≡ Some (Data.unit_variant name)
unit_variant_read name _ e (HasVariant.first {vs}) = ap (λ b. cond b (Some (Data.unit_variant name)) (unit_variant_data vs name)) (bytes_same name)
unit_variant_read name _ e (HasVariant.later {n} {k} {vs} h) =
    let p = and_both (not (is_variant_name n vs)) (variant_names_differ vs) e in
    ap (λ b. cond b (cond (is_unit_kind k) (Some (Data.unit_variant n)) None) (unit_variant_data vs name)) (other_name n name unit_kind vs (not_of (is_variant_name n vs) p.0) h) ∙ unit_variant_read name vs p.1 h

-- variants that are there have distinct shapes
pub kind_distinct : {name : List ℕ} {kind : VariantKind} {vs : Variants} → HasVariant name kind vs → are_distinct_variants vs ≡ true → is_distinct_kind kind ≡ true
kind_distinct {kind = kind} (HasVariant.first {vs}) e = (and_both (is_distinct_kind kind) (are_distinct_variants vs) e).0
kind_distinct (HasVariant.later {n} {k} {vs} h) e = kind_distinct h (and_both (is_distinct_kind k) (are_distinct_variants vs) e).1
