-- What is written is a query of RFC 3986, and in query mode one with unwise bytes.
use Rattle.std.proofs.Common.{◌≡◌, ℕ, ◌<◌, Bool, true, false, cond, not, ◌&&◌, ◌||◌, ◌==◌, List, [], ◌∷◌, ◌++◌, refl, ap, ap₂, ◌∙◌, append_assoc, Option, Some, None}
use Rattle.std.specs.List.{AllByRecursion}
use Rattle.std.specs.Char.{is_digit}
use Rattle.std.proofs.lemmas.Bool.{agree_below_at}
use Rattle.qs_spec.specs.Escape.{encoded_byte, encoded}
use Rattle.qs_spec.specs.Token.{is_bracket}
use Rattle.qs_spec.specs.Entry.{Path, Entry}
use Rattle.qs_spec.specs.Written.{open_bytes, close_bytes, brackets_text, path_text, value_text, has_key, entry_text, written}
use Rattle.qs_spec.proofs.Booleans.{and_both, not_of}
use Rattle.qs_standards.specs.Uri.{is_query_byte, is_query_with, is_query, is_in_query_set, is_unwise}
use Rattle.qs_standards.specs.Bracketed.{AreBytes, IsOfBytes, value_or_empty}

-- the bytes that a mode adds to those of RFC 3986
abbrev pub others : Bool → ℕ → Bool
others true b = false
others false b = is_unwise b

-- what is written for one byte
abbrev is_allowed : Bool → ℕ → Bool
is_allowed is_form b = not (b == 37) && (is_query_byte b || others is_form b)

abbrev is_fine : Bool → List ℕ → Bool
is_fine is_form (x ∷ []) = is_allowed is_form x
is_fine is_form (x ∷ y ∷ z ∷ []) = x == 37 && (is_digit y 16 && is_digit z 16)
is_fine is_form _ = false

fine : (is_form : Bool) (b : ℕ) → b < 256 → is_fine is_form (encoded_byte is_form b) ≡ true
fine true b l = agree_below_at (λ b. is_fine true (encoded_byte true b)) (λ b. true) 256 b refl l
fine false b l = agree_below_at (λ b. is_fine false (encoded_byte false b)) (λ b. true) 256 b refl l

-- it is a query in front of one
plain_front : (is_form : Bool) (b : ℕ) (rest : List ℕ) → is_allowed is_form b ≡ true → is_query_with (others is_form) (b ∷ rest) ≡ is_query_with (others is_form) rest
plain_front is_form b rest h = by rest
  where
    g : (not (b == 37) ≡ true) × ((is_query_byte b || others is_form b) ≡ true)
    g = and_both (not (b == 37)) (is_query_byte b || others is_form b) h

    by : (rest : List ℕ) → is_query_with (others is_form) (b ∷ rest) ≡ is_query_with (others is_form) rest
    by [] = g.1
    by (c ∷ []) = ap (λ x. x && (is_query_byte c || others is_form c)) g.1
    by (c ∷ e ∷ rest) =
        ap (λ x. cond x (is_digit c 16 && is_digit e 16 && is_query_with (others is_form) rest) ((is_query_byte b || others is_form b) && is_query_with (others is_form) (c ∷ e ∷ rest))) (not_of (b == 37) g.0)
        ∙ ap (λ x. x && is_query_with (others is_form) (c ∷ e ∷ rest)) g.1

escape_front : (is_form : Bool) (b c e : ℕ) (rest : List ℕ) → (b == 37 && (is_digit c 16 && is_digit e 16)) ≡ true → is_query_with (others is_form) (b ∷ c ∷ e ∷ rest) ≡ is_query_with (others is_form) rest
escape_front is_form b c e rest h =
    let g = and_both (b == 37) (is_digit c 16 && is_digit e 16) h in
    ap (λ x. cond x (is_digit c 16 && is_digit e 16 && is_query_with (others is_form) rest) ((is_query_byte b || others is_form b) && is_query_with (others is_form) (c ∷ e ∷ rest))) g.0
    ∙ ap (λ x. x && is_query_with (others is_form) rest) g.1

fine_front : (is_form : Bool) (xs rest : List ℕ) → is_fine is_form xs ≡ true → is_query_with (others is_form) (xs ++ rest) ≡ is_query_with (others is_form) rest
fine_front is_form [] rest h = cc
fine_front is_form (x ∷ []) rest h = plain_front is_form x rest h
fine_front is_form (x ∷ y ∷ []) rest h = cc
fine_front is_form (x ∷ y ∷ z ∷ []) rest h = escape_front is_form x y z rest h
fine_front is_form (x ∷ y ∷ z ∷ w ∷ xs) rest h = cc

encoded_front : (is_form : Bool) (s rest : List ℕ) → AreBytes s → is_query_with (others is_form) (encoded is_form s ++ rest) ≡ is_query_with (others is_form) rest
encoded_front is_form [] rest h = refl
encoded_front is_form (b ∷ s) rest h =
    ap (is_query_with (others is_form)) (append_assoc (encoded_byte is_form b) (encoded is_form s) rest)
    ∙ fine_front is_form (encoded_byte is_form b) (encoded is_form s ++ rest) (fine is_form b h.0) ∙ encoded_front is_form s rest h.1

open_front : (is_form : Bool) (rest : List ℕ) → is_query_with (others is_form) (open_bytes is_form ++ rest) ≡ is_query_with (others is_form) rest
open_front true rest = escape_front true 37 53 66 rest refl
open_front false rest = plain_front false 91 rest refl

close_front : (is_form : Bool) (rest : List ℕ) → is_query_with (others is_form) (close_bytes is_form ++ rest) ≡ is_query_with (others is_form) rest
close_front true rest = escape_front true 37 53 68 rest refl
close_front false rest = plain_front false 93 rest refl

brackets_front : (is_form : Bool) (path : Path) (rest : List ℕ) → AllByRecursion AreBytes path → is_query_with (others is_form) (brackets_text is_form path ++ rest) ≡ is_query_with (others is_form) rest
brackets_front is_form [] rest h = refl
brackets_front is_form (s ∷ path) rest h =
    let tail = brackets_text is_form path in
    ap (is_query_with (others is_form)) (append_assoc (open_bytes is_form) (encoded is_form s ++ (close_bytes is_form ++ tail)) rest)
    ∙ open_front is_form ((encoded is_form s ++ (close_bytes is_form ++ tail)) ++ rest)
    ∙ ap (is_query_with (others is_form)) (append_assoc (encoded is_form s) (close_bytes is_form ++ tail) rest)
    ∙ encoded_front is_form s ((close_bytes is_form ++ tail) ++ rest) h.0
    ∙ ap (is_query_with (others is_form)) (append_assoc (close_bytes is_form) tail rest)
    ∙ close_front is_form (tail ++ rest)
    ∙ brackets_front is_form path rest h.1

path_front : (is_form : Bool) (path : Path) (rest : List ℕ) → AllByRecursion AreBytes path → is_query_with (others is_form) (path_text is_form path ++ rest) ≡ is_query_with (others is_form) rest
unfolding path_text
path_front is_form [] rest h = refl
path_front is_form (s ∷ path) rest h =
    ap (is_query_with (others is_form)) (append_assoc (encoded is_form s) (brackets_text is_form path) rest)
    ∙ encoded_front is_form s (brackets_text is_form path ++ rest) h.0 ∙ brackets_front is_form path rest h.1

one_front : (is_form : Bool) (b : ℕ) (rest : List ℕ) → is_query_byte b ≡ true → (b == 37) ≡ false → is_query_with (others is_form) (b ∷ rest) ≡ is_query_with (others is_form) rest
one_front is_form b rest q p = plain_front is_form b rest (ap₂ (λ x y. not x && (y || others is_form b)) p q)

value_front : (is_form : Bool) (v : Option (List ℕ)) (rest : List ℕ) → AreBytes (value_or_empty v) → is_query_with (others is_form) (value_text is_form v ++ rest) ≡ is_query_with (others is_form) rest
value_front is_form None rest h = refl
value_front is_form (Some v) rest h = one_front is_form 61 (encoded is_form v ++ rest) refl refl ∙ encoded_front is_form v rest h

joint_front : (is_form a b : Bool) (rest : List ℕ) → is_query_with (others is_form) (cond a (cond b (38 ∷ []) []) [] ++ rest) ≡ is_query_with (others is_form) rest
joint_front is_form true true rest = one_front is_form 38 rest refl refl
joint_front is_form true false rest = refl
joint_front is_form false b rest = refl

pub queries : (is_form started : Bool) (es : List Entry) → AllByRecursion IsOfBytes es → is_query_with (others is_form) (written is_form started es) ≡ true
unfolding written entry_text
queries is_form started [] h = refl
queries is_form started (e ∷ es) h =
    let joint : List ℕ = cond (has_key e.path) (cond started (38 ∷ []) []) [] in
    let more = written is_form (started || has_key e.path) es in
    ap (is_query_with (others is_form)) (append_assoc joint (path_text is_form e.path ++ value_text is_form e.value) more)
    ∙ joint_front is_form (has_key e.path) started ((path_text is_form e.path ++ value_text is_form e.value) ++ more)
    ∙ ap (is_query_with (others is_form)) (append_assoc (path_text is_form e.path) (value_text is_form e.value) more)
    ∙ path_front is_form e.path (value_text is_form e.value ++ more) h.0.0
    ∙ value_front is_form e.value more h.0.1
    ∙ queries is_form (started || has_key e.path) es h.1

pub unwise : (b : ℕ) → b < 256 → is_unwise b ≡ (not (b == 37) && not (is_in_query_set b) && not (is_query_byte b))
unwise b l = agree_below_at is_unwise (λ b. not (b == 37) && not (is_in_query_set b) && not (is_query_byte b)) 256 b refl l

-- of each byte of data
pub exact : (b : ℕ) → b < 256 → is_query (encoded false (b ∷ [])) ≡ (not (is_unwise b) || is_bracket b)
exact b l = agree_below_at (λ b. is_query (encoded false (b ∷ []))) (λ b. not (is_unwise b) || is_bracket b) 256 b refl l
