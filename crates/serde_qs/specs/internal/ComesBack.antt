-- Values come back from data that is the same as theirs.
use Rattle.std.proofs.Common.{ap, ◌∙◌, refl}
use Rattle.std.specs.Prelude.{◌≡◌, ℕ, ◌==◌, ℤ, Bool, true, not, ◌&&◌, nat_le, List, length, [], ◌∷◌, map, Option, Some, None, option_map, option_and_then, if◌then◌else◌}
use Rattle.qs_spec.specs.Data as d
use Rattle.qs_spec.specs.Data.{Data, Values, Members, no_members, values_of, members_of, Named}
use Rattle.qs_spec.specs.Shape.{Field, fields_of, field_names_differ}
use Rattle.qs_spec.specs.Plain.{are_few, are_plain, are_plain_members, has_members, is_optional, is_plain, member_names_differ}
use Rattle.qs_spec.specs.Same.{Same, SameValues, SameMembers}
use Rattle.serde_qs.specs.Meaning.{is_signed, unit_in, boolean_in, unsigned_in, signed_in, character_in, text_in, option_data, option_in, values_meant, sequence_in, newtype_in}
use Rattle.serde_qs.specs.internal.Booleans.{both_hold}
use Rattle.serde_qs.specs.Records.{are_names, are_text_names, nothing_in, struct_in}
use Rattle.serde_qs.specs.ComesBack.{ComesBack, FieldsComeBack}

pub unit_back : (e : Data) → true ≡ true → Same d.unit e → unit_in e ≡ Some tt
unit_back _ h Same.unit = refl

pub boolean_back : (b : Bool) (e : Data) → true ≡ true → Same (d.boolean b) e → boolean_in e ≡ Some b
boolean_back b _ h Same.boolean = refl

pub unsigned_back : (most n : ℕ) (e : Data) → nat_le n most ≡ true → Same (d.unsigned n) e → unsigned_in most e ≡ Some n
unsigned_back most n _ h Same.unsigned = ap (λ b. if b then Some n else None) h

pub signed_back : (bits : ℕ) (z : ℤ) (e : Data) → is_signed bits z ≡ true → Same (d.signed z) e → signed_in bits e ≡ Some z
signed_back bits z _ h Same.signed = ap (λ b. if b then Some z else None) h

pub character_back : (b : ℕ → Bool) (c : ℕ) (e : Data) → b c ≡ true → Same (d.character c) e → character_in e ≡ Some c
character_back b c _ h Same.character = refl

pub text_back : (t : List ℕ) (e : Data) → Same (d.text t) e → text_in e ≡ Some t
text_back t _ Same.text = refl

-- one value, in whatever holds it
module _ {A V : Type 0} (datum : A → Data) (meaning : Data → Option V) (value : A → V) (back : ComesBack datum meaning value) (is_form : Bool) where
  pub option_back : (o : Option A) (e : Data) → is_plain is_form (option_data datum o) ≡ true → Same (option_data datum o) e → option_in meaning e ≡ Some (option_map value o)
  option_back None _ h Same.none = refl
  option_back (Some x) _ h (Same.some {d} {e} p) = ap (option_map Some) (back is_form x e (both_hold (not (is_optional (datum x))) (is_plain is_form (datum x)) h).1 p)

  all_come_back : (xs : List A) (es : Values) → are_plain is_form (values_of (map datum xs)) ≡ true → SameValues (values_of (map datum xs)) es → values_meant meaning es ≡ Some (map value xs)
  all_come_back [] _ h SameValues.values_end = refl
  all_come_back (x ∷ xs) _ h (SameValues.values_more {d} {e} {ds} {es} p ps) =
      let parts = both_hold (is_plain is_form (datum x)) (are_plain is_form (values_of (map datum xs))) h in
      ap (λ r. option_and_then (λ y. option_map (λ ys. y ∷ ys) (values_meant meaning es)) r) (back is_form x e parts.0 p)
      ∙ ap (option_map (λ ys. value x ∷ ys)) (all_come_back xs es parts.1 ps)

  pub sequence_back : (xs : List A) (e : Data) → is_plain is_form (d.sequence (values_of (map datum xs))) ≡ true → Same (d.sequence (values_of (map datum xs))) e → sequence_in meaning e ≡ Some (map value xs)
  sequence_back xs _ h (Same.sequence {ds} {es} p) = let vs = values_of (map datum xs) in all_come_back xs es (both_hold (are_few vs) (are_plain is_form vs) h).1 p

  pub newtype_back : (x : A) (e : Data) → is_plain is_form (datum x) ≡ true → Same (d.newtype (datum x)) e → newtype_in meaning e ≡ Some (value x)
  newtype_back x _ h (Same.newtype {d} {e} p) = back is_form x e h p

pub nothing_back : {A : Type 0} (is_form : Bool) (names : List (List ℕ)) (x : A) (ms : Members) → true ≡ true → true ≡ true → SameMembers no_members ms → nothing_in ms ≡ Some tt
nothing_back is_form names x _ k h SameMembers.members_end = refl

pub struct_back : {A V : Type 0} (count : ℕ) (shape : List (List ℕ) → List Field) (written : List (List ℕ) → A → List Named) (meaning : List (List ℕ) → Members → Option V) (value : A → V)
    → FieldsComeBack shape written meaning value → (is_form : Bool) (names : List (List ℕ)) (x : A) (e : Data) → are_names names count (shape names) ≡ true
    → is_plain is_form (d.struct (members_of (written names x))) ≡ true → Same (d.struct (members_of (written names x))) e → struct_in (meaning names) e ≡ Some (value x)
struct_back count shape written meaning value back is_form names x _ k h (Same.struct {ms} {ns} p) =
    let fs = fields_of (shape names) in
    let ws = members_of (written names x) in
    let named = both_hold (length names == count) (field_names_differ fs && are_text_names fs) k in
    back is_form names x ns (both_hold (field_names_differ fs) (are_text_names fs) named.1).0 (both_hold (has_members ws && member_names_differ ws) (are_plain_members is_form ws) h).1 p
