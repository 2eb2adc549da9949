-- Texts cut at a delimiter, and the items of their pieces.
use Rattle.std.proofs.Common.{◌≡◌, ℕ, ◌==◌, List, [], ◌∷◌, ◌++◌, map, drop, take-append-drop, Option, Some, None, refl, sym, ap, ap₂, ◌∙◌, subst}
use Rattle.std.specs.Char.{IsScalar, encode_utf8}
use Rattle.std.specs.List.{All}
use Rattle.std.specs.Option.{option_map, option_and_then}
use Rattle.std.specs.Str.{IsUtf8, NonePass, NoCharPasses, chars}
use Rattle.std.specs.Str.Pattern.{FindsChar, SplitsAroundMatch}
use Rattle.std.proofs.lemmas.List.Elements.{All-nil, All-cons}
use Rattle.std.proofs.lemmas.Str.{chars_from_encodes}
use Rattle.serde_qs.specs.Items.{pieces, items_in}
use Rattle.serde_qs.specs.internal.Pieces.{Differs, first_piece, last_piece}
use Rattle.qs_data.proofs.lemmas.read.Steps.{before, before-front}

all_differ : (delimiter : ℕ) (cs : List ℕ) → NonePass (λ c. c == delimiter) cs → All (Differs delimiter) cs
all_differ delimiter [] h = All-nil (Differs delimiter)
all_differ delimiter (c ∷ cs) h = All-cons (Differs delimiter) c cs h.0 (all_differ delimiter cs h.1)

without : (delimiter : ℕ) (t : List ℕ) → IsUtf8 t → NoCharPasses (λ c. c == delimiter) t → All (Differs delimiter) (chars t)
without delimiter t u h = subst (All (Differs delimiter)) (chars_from_encodes h.0 t u h.1) (all_differ delimiter h.0 h.2)

-- what `split_once` cuts off is the first piece
pub piece_before : (delimiter : ℕ) (s front back : List ℕ) → IsScalar delimiter → IsUtf8 front → SplitsAroundMatch (FindsChar delimiter) s front back
    → pieces delimiter s ≡ front ∷ pieces delimiter back
piece_before delimiter s front back c u h =
    let around : drop h.0 s ≡ encode_utf8 delimiter ++ back = h.2.1.split ∙ ap (λ l. encode_utf8 delimiter ++ l) (sym h.4) in
    let whole : s ≡ front ++ (encode_utf8 delimiter ++ back) = sym (take-append-drop h.0 s) ∙ ap₂ (λ a b. a ++ b) (sym h.3) around in
    ap (pieces delimiter) whole
    ∙ first_piece delimiter front back c u (without delimiter front u (subst (NoCharPasses (λ d. d == delimiter)) (sym h.3) h.2.0))

-- and where it finds nothing, the text is one piece
pub only_piece : (delimiter : ℕ) (s : List ℕ) → IsUtf8 s → NoCharPasses (λ c. c == delimiter) s → pieces delimiter s ≡ s ∷ []
only_piece delimiter s u h = last_piece delimiter s u (without delimiter s u h)

-- one more item, and a piece that is none
pub before-item : {A : Type 0} (m : List ℕ → Option A) (xs : List A) (t : List ℕ) (ts : List (List ℕ)) (x : A) → m t ≡ Some x
    → before xs (items_in m (t ∷ ts)) ≡ before (xs ++ x ∷ []) (items_in m ts)
before-item m xs t ts x h =
    ap (λ r. before xs (option_and_then (λ y. option_map (λ ys. y ∷ ys) (items_in m ts)) r)) h ∙ before-front xs x (items_in m ts)

pub no-item : {A : Type 0} (m : List ℕ → Option A) (xs : List A) (t : List ℕ) (ts : List (List ℕ)) → m t ≡ None → before xs (items_in m (t ∷ ts)) ≡ None
no-item m xs t ts h = ap (λ r. before xs (option_and_then (λ y. option_map (λ ys. y ∷ ys) (items_in m ts)) r)) h

-- one more value
pub map_more : {A B : Type 0} (f : A → B) (xs : List A) (x : A) → map f (xs ++ x ∷ []) ≡ map f xs ++ f x ∷ []
map_more f [] x = refl
map_more f (y ∷ ys) x = ap (λ l. f y ∷ l) (map_more f ys x)
