-- If data is plain, the test by which it was made holds, and so do the tests of its parts.
use Rattle.std.proofs.Common.{ap, ◌∙◌, refl}
use Rattle.std.proofs.lemmas.Bool.{false≢true}
use Rattle.std.specs.Prelude.{◌≡◌, ◌&&◌, ℕ, Bool, true, false, List, Option, Some}
use Rattle.qs_spec.specs.Data.{Data, Members, one_member, Pairs, one_pair}
use Rattle.qs_spec.specs.Fits.{fits}
use Rattle.qs_spec.specs.Plain.{are_plain_members, are_plain_pairs, is_plain, is_plain_key, is_plain_name}
use Rattle.qs_spec.specs.Same.{Same}
use Rattle.qs_spec.specs.Shape.{Shape}
use Rattle.serde_qs.specs.ComesBack.{ComesBack, DataFit}
use Rattle.serde_qs.specs.Fitting.{fitting, misfit, only_where}
use Rattle.serde_qs.specs.internal.Booleans.{both_hold}

pub holds : (is_form b : Bool) (x : Data) → is_plain is_form (only_where b x) ≡ true → b ≡ true
holds is_form true x h = refl
holds is_form false x h = absurd (false≢true h)

pub itself : (b : Bool) (x : Data) → b ≡ true → only_where b x ≡ x
itself b x h = ap (λ c. only_where c x) h

pub back_where : {V : Type 0} (is_form b : Bool) (x e : Data) (meant : Option V) (v : Option V) → (b ≡ true → Same x e → meant ≡ v) → is_plain is_form (only_where b x) ≡ true → Same (only_where b x) e → meant ≡ v
back_where is_form true x e meant v back h p = back refl p
back_where is_form false x e meant v back h p = absurd (false≢true h)

pub not_plain : (is_form : Bool) → is_plain is_form misfit ≡ true → ⊥
not_plain is_form h = false≢true h

-- the data of values that fit a shape

pub fitting_fits : {A : Type 0} (datum : A → Data) (shape : Shape) → DataFit (λ x. fitting shape (datum x)) shape
fitting_fits datum shape is_form x h =
    let valid = holds is_form (fits shape (datum x)) (datum x) h in
    ap (fits shape) (itself (fits shape (datum x)) (datum x) valid) ∙ valid

pub fitting_back : {A V : Type 0} (value : A → V) (datum : A → Data) (shape : Shape) (meaning : Data → Option V)
    → ((x : A) (e : Data) → fits shape (datum x) ≡ true → Same (datum x) e → meaning e ≡ Some (value x)) → ComesBack (λ x. fitting shape (datum x)) meaning value
fitting_back value datum shape meaning back is_form x e h p = back_where is_form (fits shape (datum x)) (datum x) e (meaning e) (Some (value x)) (back x e) h p

-- a member and those after it
pub member_parts : (is_form : Bool) (n : List ℕ) (x : Data) (ms : Members) → are_plain_members is_form (one_member n x ms) ≡ true → (is_plain is_form x ≡ true) × (are_plain_members is_form ms ≡ true)
member_parts is_form n x ms h =
    let both = both_hold (is_plain_name is_form n && is_plain is_form x) (are_plain_members is_form ms) h in
    ((both_hold (is_plain_name is_form n) (is_plain is_form x) both.0).1, both.1)

-- a pair and those after it
pub pair_parts : (is_form : Bool) (k x : Data) (ps : Pairs) → are_plain_pairs is_form (one_pair k x ps) ≡ true → (is_plain is_form x ≡ true) × (are_plain_pairs is_form ps ≡ true)
pair_parts is_form k x ps h =
    let both = both_hold (is_plain_key is_form k && is_plain is_form x) (are_plain_pairs is_form ps) h in
    ((both_hold (is_plain_key is_form k) (is_plain is_form x) both.0).1, both.1)
