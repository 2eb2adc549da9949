-- Texts of a program are UTF-8, and its bytes are below 256; data are no variant of no kind.
use Rattle.qs_data.proofs.Common.{◌≡◌, ℕ, suc, true, false, nat_lt, List, [], ◌∷◌, get_or, None, refl, arith, string_bytes, Fits, w8, list_all, is_utf8, nat_tests, String, IsUtf8-string_bytes, is_utf8-from_IsUtf8, is_byte, fits_variant}
use Rattle.qs_spec.specs.Data.{Data}

pub name_is_utf8 : {Z : Type 0} (s : String Z) → is_utf8 (string_bytes s) ≡ true
name_is_utf8 s = is_utf8-from_IsUtf8 (string_bytes s) (IsUtf8-string_bytes s)

-- bytes of a program are below 256
pub all_bytes : (bs : List ℕ) → ((k : ℕ) → Fits w8 (get_or bs k 0)) → list_all is_byte bs ≡ true
all_bytes [] h = refl
all_bytes (b ∷ bs) h =
    let first = h 0 in
    let e : nat_lt b 256 ≡ true = grind (arith, nat_tests, first) in
    rw e (all_bytes bs (λ k. h (suc k)))

-- data are no variant of no kind
pub no_kind : (d : Data) → fits_variant None d ≡ false
no_kind (Data.unit_variant name) = refl
no_kind d = refl
