-- One field after another, and what is left of lists that have come to their end.
use Rattle.qs_data.proofs.Common.{take, take_rest, ap₂, ◌-◌, ◌≡◌, ℕ, ◌+◌, ◌<◌, ◌==◌, Bool, true, false, ◌&&◌, List, [], ◌∷◌, length, length-drop, drop, get_or, refl, sym, ap, ◌∙◌, subst, arith, string_bytes, drop_more, bytes_eq, String, Global, Shape, Fields, no_fields, one_field, no_shapes, fits, fits_tuple, fits_fields, Data, data_of, values_in, members_in, is_next}
use Rattle.qs_data.proofs.lemmas.data.Counts.{not_empty}
use Rattle.qs_data.proofs.lemmas.shape.Fitting.{name_is_utf8}

abbrev Member : Type 0
Member = String Global × Data

-- a field whose name the next member has
taken : (n : List ℕ) (s : Shape) (o : Bool) (fs : Fields) (m : Member) (ms : List Member) → bytes_eq n (string_bytes m.0) ≡ true
    → fits_fields (one_field n s o fs) (members_in (m ∷ ms)) ≡ fits s (data_of m.1) && fits_fields fs (members_in ms)
taken n s o fs m ms h = rw (name_is_utf8 m.0, h) refl

-- a field whose name it hasn't
pub skipped : (n : List ℕ) (s : Shape) (o : Bool) (fs : Fields) (ms : List Member) → is_next n (members_in ms) ≡ false
    → fits_fields (one_field n s o fs) (members_in ms) ≡ o && fits_fields fs (members_in ms)
skipped n s o fs [] h = refl
skipped n s o fs (m ∷ ms) h = rw (name_is_utf8 m.0, h) refl

next_within : (n : List ℕ) (ms : List Member) → is_next n (members_in ms) ≡ true → 0 < length ms
next_within n [] h = absurd cc
next_within n (m ∷ ms) h = omega arith

-- no fields and no shapes are left
pub no_more_fields : (ms : List Member) → (length ms == 0) ≡ fits_fields no_fields (members_in ms)
no_more_fields [] = refl
no_more_fields (m ∷ ms) = not_empty m ms ∙ rw (name_is_utf8 m.0) refl

pub no_more_shapes : (xs : List Data) → (length xs == 0) ≡ fits_tuple no_shapes (values_in xs)
no_more_shapes [] = refl
no_more_shapes (x ∷ xs) = not_empty x xs

-- the field whose name the member at a place has, and whether it fits
pub taken_at : (n name : List ℕ) (s : Shape) (o : Bool) (fs : Fields) (xs ms : List Member) (at : ℕ) (m : Member) (b : Bool) → xs ≡ ms → name ≡ n
    → is_next name (members_in (take (length xs - at) (drop at xs))) ≡ true → m ≡ get_or ms at m → fits s (data_of m.1) ≡ b
    → fits_fields (one_field n s o fs) (members_in (drop at ms)) ≡ b && fits_fields fs (members_in (drop (at + 1) ms))
taken_at n name s o fs xs ms at m b same called next is fit =
    let h : is_next n (members_in (drop at ms)) ≡ true = ap₂ (λ n l. is_next n (members_in l)) (sym called) (sym (take_rest xs at ∙ ap (drop at) same)) ∙ next in
    let within : 0 < length (drop at ms) = next_within n (drop at ms) h in
    let here : at < length ms = grind (arith, length-drop, within) in
    let split : drop at ms ≡ m ∷ drop (at + 1) ms = drop_more ms at m here ∙ ap (λ x. x ∷ drop (at + 1) ms) (sym is) in
    let named : bytes_eq n (string_bytes m.0) ≡ true = subst (λ (l : List Member). is_next n (members_in l) ≡ true) split h in
    ap (λ l. fits_fields (one_field n s o fs) (members_in l)) split ∙ taken n s o fs m (drop (at + 1) ms) named ∙ ap (λ c. c && fits_fields fs (members_in (drop (at + 1) ms))) fit
