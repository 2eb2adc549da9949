-- What is written is a form of the paths, with their brackets, and the values.
use Rattle.std.proofs.Common.{◌≡◌, ℕ, ◌+◌, ◌*◌, ◌<◌, Bool, true, false, cond, not, ◌&&◌, ◌||◌, ◌==◌, List, [], ◌∷◌, ◌++◌, map, refl, sym, ap, ap₂, ◌∙◌, append_assoc, append-nil, Option, Some, None}
use Rattle.std.specs.List.{list_all, filter, AllByRecursion}
use Rattle.std.specs.Char.{is_digit, digit_value}
use Rattle.std.proofs.lemmas.Bool.{agree_below_at}
use Rattle.std.proofs.lemmas.List.Folds.{list_all-append}
use Rattle.qs_spec.specs.Escape.{encoded_byte, encoded}
use Rattle.qs_spec.specs.Entry.{Path, Entry}
use Rattle.qs_spec.specs.Written.{open_bytes, close_bytes, brackets_text, path_text, value_text, has_key, written}
use Rattle.qs_spec.proofs.Booleans.{and_both, not_of}
use Rattle.qs_spec.proofs.EntryParsed.{text_of_first, text_of_next}
use Rattle.qs_standards.specs.FormUrlencoded.{NameValue, before_first, split, isnt_empty, name_bytes, value_bytes, plus_to_space, form_decoded, name_value, form_parsed}
use Rattle.qs_standards.specs.Bracketed.{in_brackets, bracketed, value_or_empty, entry_named, AreBytes, IsOfBytes, WritesAny, Writes}
use Rattle.qs_standards.specs.Covered.{begins_digits}
use Rattle.qs_standards.specs.Worked.{named}
use Rattle.qs_standards.proofs.Decoding.{equal_of, kept, escaped}
use Rattle.qs_standards.proofs.Pieces.{is_separator}

-- ---- decoding

-- what is written for one byte, decoded
abbrev is_back : ℕ → List ℕ → Bool
is_back b (x ∷ []) = not (x == 37) && plus_to_space x == b
is_back b (x ∷ y ∷ z ∷ []) = (x == 37 && (is_digit y 16 && is_digit z 16)) && (16 * digit_value y + digit_value z) == b
is_back b _ = false

backs : (is_form : Bool) (b : ℕ) → b < 256 → is_back b (encoded_byte is_form b) ≡ true
backs true b l = agree_below_at (λ b. is_back b (encoded_byte true b)) (λ b. true) 256 b refl l
backs false b l = agree_below_at (λ b. is_back b (encoded_byte false b)) (λ b. true) 256 b refl l

one_back : (b : ℕ) (xs rest : List ℕ) → is_back b xs ≡ true → form_decoded (xs ++ rest) ≡ b ∷ form_decoded rest
one_back b [] rest h = cc
one_back b (x ∷ []) rest h =
    let g = and_both (not (x == 37)) (plus_to_space x == b) h in
    kept x rest (ap (λ p. p && begins_digits rest) (not_of (x == 37) g.0)) ∙ ap (λ c. c ∷ form_decoded rest) (equal_of (plus_to_space x) b g.1)
one_back b (x ∷ y ∷ []) rest h = cc
one_back b (x ∷ y ∷ z ∷ []) rest h =
    let g = and_both (x == 37 && (is_digit y 16 && is_digit z 16)) ((16 * digit_value y + digit_value z) == b) h in
    let p = and_both (x == 37) (is_digit y 16 && is_digit z 16) g.0 in
    let d = and_both (is_digit y 16) (is_digit z 16) p.1 in
    escaped x y z rest p.0 d.0 d.1 ∙ ap (λ c. c ∷ form_decoded rest) (equal_of (16 * digit_value y + digit_value z) b g.1)
one_back b (x ∷ y ∷ z ∷ w ∷ xs) rest h = cc

encoded_back : (is_form : Bool) (s rest : List ℕ) → AreBytes s → form_decoded (encoded is_form s ++ rest) ≡ s ++ form_decoded rest
encoded_back is_form [] rest h = refl
encoded_back is_form (b ∷ s) rest h =
    ap form_decoded (append_assoc (encoded_byte is_form b) (encoded is_form s) rest) ∙ one_back b (encoded_byte is_form b) (encoded is_form s ++ rest) (backs is_form b h.0) ∙ ap (λ l. b ∷ l) (encoded_back is_form s rest h.1)

open_back : (is_form : Bool) (rest : List ℕ) → form_decoded (open_bytes is_form ++ rest) ≡ 91 ∷ form_decoded rest
open_back true rest = escaped 37 53 66 rest refl refl refl
open_back false rest = kept 91 rest refl

close_back : (is_form : Bool) (rest : List ℕ) → form_decoded (close_bytes is_form ++ rest) ≡ 93 ∷ form_decoded rest
close_back true rest = escaped 37 53 68 rest refl refl refl
close_back false rest = kept 93 rest refl

brackets_back : (is_form : Bool) (path : Path) → AllByRecursion AreBytes path → form_decoded (brackets_text is_form path) ≡ in_brackets path
brackets_back is_form [] h = refl
brackets_back is_form (s ∷ path) h =
    let tail = close_bytes is_form ++ brackets_text is_form path in
    open_back is_form (encoded is_form s ++ tail) ∙ ap (λ l. 91 ∷ l) (encoded_back is_form s tail h.0 ∙ ap (λ l. s ++ l) (close_back is_form (brackets_text is_form path) ∙ ap (λ l. 93 ∷ l) (brackets_back is_form path h.1)))

path_back : (is_form : Bool) (path : Path) → AllByRecursion AreBytes path → form_decoded (path_text is_form path) ≡ bracketed path
unfolding path_text
path_back is_form [] h = refl
path_back is_form (s ∷ path) h = encoded_back is_form s (brackets_text is_form path) h.0 ∙ ap (λ l. s ++ l) (brackets_back is_form path h.1)

value_back : (is_form : Bool) (v : List ℕ) → AreBytes v → form_decoded (encoded is_form v) ≡ v
value_back is_form v h = ap form_decoded (sym (append-nil (encoded is_form v))) ∙ encoded_back is_form v [] h ∙ append-nil v

-- ---- separators

-- no `&` and no `=`, and no `&`
abbrev is_clean : ℕ → Bool
is_clean b = not (is_separator b)

abbrev is_free : ℕ → Bool
is_free b = not (b == 38)

abbrev AreAll : (ℕ → Bool) → List ℕ → Type 0
AreAll test xs = list_all test xs ≡ true

join : (test : ℕ → Bool) (xs ys : List ℕ) → AreAll test xs → AreAll test ys → AreAll test (xs ++ ys)
join test xs ys h i = list_all-append test xs ys ∙ ap₂ (λ a b. a && b) h i

byte_clean : (is_form : Bool) (b : ℕ) → b < 256 → AreAll is_clean (encoded_byte is_form b)
byte_clean true b l = agree_below_at (λ b. list_all is_clean (encoded_byte true b)) (λ b. true) 256 b refl l
byte_clean false b l = agree_below_at (λ b. list_all is_clean (encoded_byte false b)) (λ b. true) 256 b refl l

encoded_clean : (is_form : Bool) (s : List ℕ) → AreBytes s → AreAll is_clean (encoded is_form s)
encoded_clean is_form [] h = refl
encoded_clean is_form (b ∷ s) h = join is_clean (encoded_byte is_form b) (encoded is_form s) (byte_clean is_form b h.0) (encoded_clean is_form s h.1)

open_clean : (is_form : Bool) → AreAll is_clean (open_bytes is_form)
open_clean true = refl
open_clean false = refl

close_clean : (is_form : Bool) → AreAll is_clean (close_bytes is_form)
close_clean true = refl
close_clean false = refl

brackets_clean : (is_form : Bool) (path : Path) → AllByRecursion AreBytes path → AreAll is_clean (brackets_text is_form path)
brackets_clean is_form [] h = refl
brackets_clean is_form (s ∷ path) h =
    join is_clean (open_bytes is_form) (encoded is_form s ++ (close_bytes is_form ++ brackets_text is_form path)) (open_clean is_form)
    (join is_clean (encoded is_form s) (close_bytes is_form ++ brackets_text is_form path) (encoded_clean is_form s h.0)
    (join is_clean (close_bytes is_form) (brackets_text is_form path) (close_clean is_form) (brackets_clean is_form path h.1)))

path_clean : (is_form : Bool) (path : Path) → AllByRecursion AreBytes path → AreAll is_clean (path_text is_form path)
unfolding path_text
path_clean is_form [] h = refl
path_clean is_form (s ∷ path) h = join is_clean (encoded is_form s) (brackets_text is_form path) (encoded_clean is_form s h.0) (brackets_clean is_form path h.1)

neither : (b : ℕ) → not (is_separator b) ≡ true → ((b == 38) ≡ false) × ((b == 61) ≡ false)
neither b h = by (b == 38) (b == 61) h
  where
    by : (x y : Bool) → not (x || y) ≡ true → (x ≡ false) × (y ≡ false)
    by true y h = cc
    by false true h = cc
    by false false h = (refl, refl)

-- a key, and a value after `=`, as name and value
key_alone : (key : List ℕ) → AreAll is_clean key → (name_bytes key ≡ key) × (value_bytes key ≡ [])
key_alone [] h = (refl, refl)
key_alone (b ∷ key) h =
    let g = and_both (is_clean b) (list_all is_clean key) h in
    let e = (neither b g.0).1 in
    let r = key_alone key g.1 in
    (ap (λ x. cond x [] (b ∷ name_bytes key)) e ∙ ap (λ l. b ∷ l) r.0, ap (λ x. cond x key (value_bytes key)) e ∙ r.1)

key_value : (key v : List ℕ) → AreAll is_clean key → (name_bytes (key ++ 61 ∷ v) ≡ key) × (value_bytes (key ++ 61 ∷ v) ≡ v)
key_value [] v h = (refl, refl)
key_value (b ∷ key) v h =
    let g = and_both (is_clean b) (list_all is_clean key) h in
    let e = (neither b g.0).1 in
    let r = key_value key v g.1 in
    (ap (λ x. cond x [] (b ∷ name_bytes (key ++ 61 ∷ v))) e ∙ ap (λ l. b ∷ l) r.0, ap (λ x. cond x (key ++ 61 ∷ v) (value_bytes (key ++ 61 ∷ v))) e ∙ r.1)

clean_free : (xs : List ℕ) → AreAll is_clean xs → AreAll is_free xs
clean_free [] h = refl
clean_free (x ∷ xs) h = let g = and_both (is_clean x) (list_all is_clean xs) h in ap₂ (λ a b. not a && b) (neither x g.0).0 (clean_free xs g.1)

split_alone : (xs : List ℕ) → AreAll is_free xs → split xs ≡ xs ∷ []
split_alone [] h = refl
split_alone (x ∷ xs) h =
    let g = and_both (is_free x) (list_all is_free xs) h in
    ap (λ y. cond y ([] ∷ split xs) (before_first x (split xs))) (not_of (x == 38) g.0) ∙ ap (before_first x) (split_alone xs g.1)

split_front : (xs ys : List ℕ) → AreAll is_free xs → split (xs ++ 38 ∷ ys) ≡ xs ∷ split ys
split_front [] ys h = refl
split_front (x ∷ xs) ys h =
    let g = and_both (is_free x) (list_all is_free xs) h in
    ap (λ y. cond y ([] ∷ split (xs ++ 38 ∷ ys)) (before_first x (split (xs ++ 38 ∷ ys)))) (not_of (x == 38) g.0) ∙ ap (before_first x) (split_front xs ys g.1)

-- ---- entries

abbrev text_of : Bool → Entry → List ℕ
text_of is_form e = path_text is_form e.path ++ value_text is_form e.value

text_free : (is_form : Bool) (e : Entry) → IsOfBytes e → AreAll is_free (text_of is_form e)
text_free is_form e h = join is_free (path_text is_form e.path) (value_text is_form e.value) (clean_free (path_text is_form e.path) (path_clean is_form e.path h.0)) (by e.value h.1)
  where
    by : (v : Option (List ℕ)) → AreBytes (value_or_empty v) → AreAll is_free (value_text is_form v)
    by None h = refl
    by (Some v) h = clean_free (encoded is_form v) (encoded_clean is_form v h)

text_named : (is_form : Bool) (e : Entry) → IsOfBytes e → name_value (text_of is_form e) ≡ entry_named e
text_named is_form e h = by e.value h.1
  where
    clean : AreAll is_clean (path_text is_form e.path)
    clean = path_clean is_form e.path h.0

    by : (v : Option (List ℕ)) → AreBytes (value_or_empty v) → name_value (path_text is_form e.path ++ value_text is_form v) ≡ record { name = bracketed e.path; value = value_or_empty v }
    by None i =
        let w = append-nil (path_text is_form e.path) in
        let k = key_alone (path_text is_form e.path) clean in
        ap name_value w ∙ ap₂ named (ap form_decoded k.0 ∙ path_back is_form e.path h.0) (ap form_decoded k.1)
    by (Some v) i =
        let k = key_value (path_text is_form e.path) (encoded is_form v) clean in
        ap₂ named (ap form_decoded k.0 ∙ path_back is_form e.path h.0) (ap form_decoded k.1 ∙ value_back is_form v i)

byte_some : (is_form : Bool) (b : ℕ) → b < 256 → isnt_empty (encoded_byte is_form b) ≡ true
byte_some true b l = agree_below_at (λ b. isnt_empty (encoded_byte true b)) (λ b. true) 256 b refl l
byte_some false b l = agree_below_at (λ b. isnt_empty (encoded_byte false b)) (λ b. true) 256 b refl l

some_front : (xs ys : List ℕ) → isnt_empty xs ≡ true → isnt_empty (xs ++ ys) ≡ true
some_front [] ys h = cc
some_front (x ∷ xs) ys h = refl

some_middle : (xs : List ℕ) (y : ℕ) (ys : List ℕ) → isnt_empty (xs ++ y ∷ ys) ≡ true
some_middle [] y ys = refl
some_middle (x ∷ xs) y ys = refl

text_some : (is_form : Bool) (path : Path) (v : Option (List ℕ)) → AllByRecursion AreBytes path → WritesAny path v → isnt_empty (path_text is_form path ++ value_text is_form v) ≡ true
unfolding path_text
text_some is_form [] v h w = absurd w
text_some is_form (s ∷ path) (Some v) h w = some_middle (encoded is_form s ++ brackets_text is_form path) 61 (encoded is_form v)
text_some is_form ((b ∷ s) ∷ path) None h w =
    some_front (encoded is_form (b ∷ s) ++ brackets_text is_form path) [] (some_front (encoded is_form (b ∷ s)) (brackets_text is_form path) (some_front (encoded_byte is_form b) (encoded is_form s) (byte_some is_form b h.0.0)))
text_some is_form ([] ∷ []) None h w = absurd w
text_some is_form ([] ∷ s ∷ path) None h w = some_front (brackets_text is_form (s ∷ path)) [] (open_some is_form)
  where
    open_some : (is_form : Bool) → isnt_empty (brackets_text is_form (s ∷ path)) ≡ true
    open_some true = refl
    open_some false = refl

keyed : (path : Path) (v : Option (List ℕ)) → WritesAny path v → has_key path ≡ true
keyed [] v w = absurd w
keyed (s ∷ path) v w = refl

alone : (text : List ℕ) (n : NameValue) → AreAll is_free text → isnt_empty text ≡ true → name_value text ≡ n → form_parsed text ≡ n ∷ []
alone text n f s e = ap (λ (l : List (List ℕ)). map name_value (filter isnt_empty l)) (split_alone text f) ∙ ap (λ x. map name_value (cond x (text ∷ []) [])) s ∙ ap (λ x. x ∷ []) e

before : (text rest : List ℕ) (n : NameValue) → AreAll is_free text → isnt_empty text ≡ true → name_value text ≡ n → form_parsed (text ++ 38 ∷ rest) ≡ n ∷ form_parsed rest
before text rest n f s e =
    ap (λ (l : List (List ℕ)). map name_value (filter isnt_empty l)) (split_front text rest f) ∙ ap (λ x. map name_value (cond x (text ∷ filter isnt_empty (split rest)) (filter isnt_empty (split rest)))) s
    ∙ ap (λ x. x ∷ form_parsed rest) e

pub forms : (is_form : Bool) (es : List Entry) → AllByRecursion IsOfBytes es → AllByRecursion Writes es → form_parsed (written is_form false es) ≡ map entry_named es
unfolding written
forms is_form [] h w = refl
forms is_form (e ∷ []) h w =
    ap form_parsed (text_of_first is_form e [] (keyed e.path e.value w.0) ∙ append-nil (text_of is_form e))
    ∙ alone (text_of is_form e) (entry_named e) (text_free is_form e h.0) (text_some is_form e.path e.value h.0.0 w.0) (text_named is_form e h.0)
forms is_form (e ∷ f ∷ es) h w =
    ap form_parsed (text_of_first is_form e (f ∷ es) (keyed e.path e.value w.0) ∙ ap (λ l. text_of is_form e ++ l) (text_of_next is_form f es (keyed f.path f.value w.1.0)))
    ∙ before (text_of is_form e) (written is_form false (f ∷ es)) (entry_named e) (text_free is_form e h.0) (text_some is_form e.path e.value h.0.0 w.0) (text_named is_form e h.0)
    ∙ ap (λ l. entry_named e ∷ l) (forms is_form (f ∷ es) h.1 w.1)
