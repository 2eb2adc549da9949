-- The fields of a written struct are found by their names, and their keys are allowed.
use Rattle.std.proofs.Common.{◌≡◌, ℕ, Bool, true, false, ◌&&◌, ◌||◌, List, [], ◌∷◌, refl, sym, ap, ap₂, ◌∙◌}
use Rattle.std.specs.List.{AllByRecursion}
use Rattle.std.specs.Str.{bytes_eq, is_utf8}
use Rattle.qs_spec.specs.Segment.{Segment, is_same_segment}
use Rattle.qs_spec.specs.Tree.{Tree, entries_of}
use Rattle.qs_spec.specs.Data.{Members, no_members, one_member}
use Rattle.qs_spec.specs.Shape.{Fields, UnknownKeys, are_ignored, is_field_name}
use Rattle.qs_spec.specs.Node.{found, all_keys, keys_are_allowed}
use Rattle.qs_spec.specs.Config.{ArrayFormat}
use Rattle.qs_spec.proofs.Booleans.{or_both}
use Rattle.qs_spec.proofs.Order.{is_itself}
use Rattle.qs_spec.proofs.VariantNames.{bytes_same, bytes_equal}
use Rattle.qs_spec.specs.Plain.{is_member_name}
use Rattle.qs_spec.specs.internal.Fitting.{FitsFields}
use Rattle.qs_spec.specs.internal.Parts.{Branch, member_branches}
use Rattle.qs_spec.proofs.Branches.{segment, IsOther, SegsDiffer, keys, all_both}
use Rattle.qs_spec.proofs.AtKeys.{found_other, found_own, tested_put}
use Rattle.qs_spec.proofs.GoodParts.{AreGood, all_to}

module _ (fm : ArrayFormat) (is_form : Bool) where
  module _ (escaped : Segment → Bool) (f : Segment → Tree) where
    -- what is found by a name
    pub none_found : (name : List ℕ) (bs : List Branch) → AreGood fm is_form bs → AllByRecursion (λ (b : Branch). bytes_eq b.0 name ≡ false) bs → found name (entries_of escaped f (keys is_form bs)) ≡ []
    none_found name [] g h = refl
    none_found name (b ∷ bs) g h =
        found_other escaped f name (segment is_form b.0) (keys is_form bs) (ap (λ (s : List ℕ). bytes_eq s name) g.0.0.1 ∙ h.0) ∙ none_found name bs g.1 h.1

    -- segments that differ are of names that differ
    other_name : (b c : Branch) → IsOther is_form b.0 c → bytes_eq c.0 b.0 ≡ false
    other_name b c o = by (bytes_eq c.0 b.0) refl
      where
        by : (x : Bool) → bytes_eq c.0 b.0 ≡ x → bytes_eq c.0 b.0 ≡ false
        by true e = let w = sym o ∙ ap (λ (s : List ℕ). is_same_segment (segment is_form b.0) (segment is_form s)) (bytes_equal c.0 b.0 e) ∙ is_itself (segment is_form b.0) in cc
        by false e = e

    pub each_found : (bs : List Branch) → SegsDiffer is_form bs → AreGood fm is_form bs → AllByRecursion (λ (b : Branch). found b.0 (entries_of escaped f (keys is_form bs)) ≡ f (segment is_form b.0) ∷ []) bs
    each_found [] d g = tt
    each_found (b ∷ bs) d g =
        let others = all_to (IsOther is_form b.0) (λ (c : Branch). bytes_eq c.0 b.0 ≡ false) (other_name b) bs d.0 in (
          found_own escaped f b.0 (segment is_form b.0) (keys is_form bs) (ap (λ (s : List ℕ). bytes_eq s b.0) g.0.0.1 ∙ bytes_same b.0) (none_found b.0 bs g.1 others),
          all_both (λ (c : Branch). bytes_eq c.0 b.0 ≡ false) (λ (c : Branch). found c.0 (entries_of escaped f (keys is_form bs)) ≡ f (segment is_form c.0) ∷ [])
              (λ (c : Branch). found c.0 (entries_of escaped f (keys is_form (b ∷ bs))) ≡ f (segment is_form c.0) ∷ [])
              (λ c o e. found_other escaped f c.0 (segment is_form b.0) (keys is_form bs) (ap (λ (s : List ℕ). bytes_eq s c.0) g.0.0.1 ∙ turned c.0 b.0 o) ∙ e) bs others (each_found bs d.1 g.1),
        )
      where
        turned : (s t : List ℕ) → bytes_eq s t ≡ false → bytes_eq t s ≡ false
        turned s t o = by (bytes_eq t s) refl
          where
            by : (x : Bool) → bytes_eq t s ≡ x → bytes_eq t s ≡ false
            by true e = let w = sym o ∙ ap (bytes_eq s) (bytes_equal t s e) ∙ bytes_same s in cc
            by false e = e

    all_tested : (test : List ℕ → Bool) (bs : List Branch) → AreGood fm is_form bs → AllByRecursion (λ (b : Branch). test b.0 ≡ true) bs → all_keys test (entries_of escaped f (keys is_form bs)) ≡ true
    all_tested test [] g h = refl
    all_tested test (b ∷ bs) g h = tested_put escaped f test (segment is_form b.0) (keys is_form bs) (ap test g.0.0.1 ∙ h.0) (all_tested test bs g.1 h.1)

pub or_true : (b c : Bool) → c ≡ true → (b || c) ≡ true
or_true true c e = refl
or_true false c e = e

pub not_member : (name : List ℕ) {fs : Fields} {ms : Members} → FitsFields fs ms → is_field_name name fs ≡ false → is_member_name name ms ≡ false
not_member name FitsFields.no_more e = refl
not_member name (FitsFields.there {name = n} {fs = fs} u f fits) e =
    let p = or_both (bytes_eq n name) (is_field_name name fs) e in
    ap₂ (λ a b. a || b) p.0 (not_member name fits p.1)
not_member name (FitsFields.left_out {name = n} {fs = fs} fits) e = not_member name fits (or_both (bytes_eq n name) (is_field_name name fs) e).1

fields_text : (fm : ArrayFormat) {fs : Fields} {ms : Members} → FitsFields fs ms → AllByRecursion (λ (b : Branch). is_utf8 b.0 ≡ true) (member_branches fm ms)
fields_text fm FitsFields.no_more = tt
fields_text fm (FitsFields.there u f fits) = (u, fields_text fm fits)
fields_text fm (FitsFields.left_out fits) = fields_text fm fits

others : (name : List ℕ) (fs : Fields) (bs : List Branch) → AllByRecursion (λ (b : Branch). is_field_name b.0 fs ≡ true) bs → AllByRecursion (λ (b : Branch). (bytes_eq name b.0 || is_field_name b.0 fs) ≡ true) bs
others name fs bs h = all_to (λ (b : Branch). is_field_name b.0 fs ≡ true) (λ (b : Branch). (bytes_eq name b.0 || is_field_name b.0 fs) ≡ true) (λ b e. or_true (bytes_eq name b.0) (is_field_name b.0 fs) e) bs h

fields_named : (fm : ArrayFormat) {fs : Fields} {ms : Members} → FitsFields fs ms → AllByRecursion (λ (b : Branch). is_field_name b.0 fs ≡ true) (member_branches fm ms)
fields_named fm FitsFields.no_more = tt
fields_named fm (FitsFields.there {name = name} {fs = fs} {ms = ms} u f fits) =
    (ap (λ b. b || is_field_name name fs) (bytes_same name), others name fs (member_branches fm ms) (fields_named fm fits))
fields_named fm (FitsFields.left_out {name = name} {fs = fs} {ms = ms} fits) = others name fs (member_branches fm ms) (fields_named fm fits)

-- keys of written fields are allowed
pub all_allowed : (fm : ArrayFormat) (is_form : Bool) (unknown : UnknownKeys) (fs : Fields) (ms : Members) → FitsFields fs ms → (escaped : Segment → Bool) (f : Segment → Tree) → AreGood fm is_form (member_branches fm ms)
    → keys_are_allowed unknown fs (entries_of escaped f (keys is_form (member_branches fm ms))) ≡ true
all_allowed fm is_form unknown fs ms fits escaped f g =
    ap₂ (λ a b. a && (b || are_ignored unknown)) (all_tested fm is_form escaped f is_utf8 (member_branches fm ms) g (fields_text fm fits))
    (all_tested fm is_form escaped f (λ key. is_field_name key fs) (member_branches fm ms) g (fields_named fm fits))

pub other_field : (n name : List ℕ) (fs : Fields) → is_field_name n fs ≡ false → is_field_name name fs ≡ true → bytes_eq n name ≡ false
other_field n name fs e i = by (bytes_eq n name) refl
  where
    by : (b : Bool) → bytes_eq n name ≡ b → bytes_eq n name ≡ false
    by true d = let w = sym e ∙ ap (λ (x : List ℕ). is_field_name x fs) (bytes_equal n name d) ∙ i in cc
    by false d = d

pub absent : (fm : ArrayFormat) (name : List ℕ) (ms : Members) → is_member_name name ms ≡ false → AllByRecursion (λ (b : Branch). bytes_eq b.0 name ≡ false) (member_branches fm ms)
absent fm name no_members e = tt
absent fm name (one_member n d ms) e = let p = or_both (bytes_eq n name) (is_member_name name ms) e in (p.0, absent fm name ms p.1)
