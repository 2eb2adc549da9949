-- The pairs of an input are the standard's names and values exactly if no broken escape covers anything.
use Rattle.std.proofs.Common.{◌≡◌, ◌↔◌, ℕ, Bool, true, false, cond, ◌||◌, ◌==◌, arith, List, [], ◌∷◌, map, refl, sym, ap, ap₂, ◌∙◌, subst, nat_le}
use Rattle.std.specs.List.{list_any, list_all, filter}
use Rattle.std.specs.Char.{is_digit}
use Rattle.std.proofs.lemmas.Bool.Decides.{nat_tests}
use Rattle.qs_spec.specs.Escape.{is_between, decoded}
use Rattle.qs_spec.specs.Token.{tokens}
use Rattle.qs_spec.specs.Segment.{number, is_index}
use Rattle.qs_spec.specs.Segment.Segment.{Int, Str}
use Rattle.qs_spec.specs.Leaf.{value_leaf, leaf_text}
use Rattle.qs_spec.specs.Grammar.{Pair, ArePairs}
use Rattle.qs_spec.proofs.Booleans.{and_both, or_both}
use Rattle.qs_standards.specs.FormUrlencoded.{form_decoded, split, isnt_empty, name_bytes, value_bytes, name_value, form_parsed}
use Rattle.qs_standards.specs.Covered.{covers_encoded}
use Rattle.qs_standards.specs.Pieces.{piece_leaf, name_path, piece_pair, piece_pairs}
use Rattle.qs_standards.specs.Named.{HasName, IsNamePath, IsNamed, AreNamed}
use Rattle.qs_standards.proofs.Decoding.{alike, digit_kept, no_digit}
use Rattle.qs_standards.proofs.Covers.{covers_plain, covers_piece, covers_pieces}
use Rattle.qs_standards.proofs.Pieces.{pieces_alone}

hexadecimal : (b : ℕ) → is_between 48 57 b ≡ true → is_digit b 16 ≡ true
hexadecimal b h = grind (arith, nat_tests)

-- digits are decoded to themselves, and cover nothing
digits_stay : (raw : List ℕ) → list_all (is_between 48 57) raw ≡ true → form_decoded raw ≡ raw
digits_stay [] h = refl
digits_stay (b ∷ raw) h =
    let g = and_both (is_between 48 57 b) (list_all (is_between 48 57) raw) h in
    digit_kept b raw (hexadecimal b g.0) ∙ ap (λ l. b ∷ l) (digits_stay raw g.1)

digits_cover : (raw : List ℕ) → list_all (is_between 48 57) raw ≡ true → covers_encoded raw ≡ false
digits_cover [] h = refl
digits_cover (b ∷ raw) h =
    let g = and_both (is_between 48 57 b) (list_all (is_between 48 57) raw) h in
    covers_plain b raw (no_digit b (hexadecimal b g.0)) ∙ digits_cover raw g.1

index_digits : (raw : List ℕ) → is_index raw ≡ true → list_all (is_between 48 57) raw ≡ true
index_digits [] h = cc
index_digits (b ∷ raw) h = (and_both (list_all (is_between 48 57) (b ∷ raw)) (nat_le (number (b ∷ raw)) 4294967295) h).0

name_alike : (raw : List ℕ) → IsNamePath (form_decoded raw) (name_path raw) ↔ (covers_encoded raw ≡ false)
name_alike [] = (λ h. refl, λ h. refl)
name_alike (b ∷ raw) = by (is_index (b ∷ raw)) refl
  where
    by : (x : Bool) → is_index (b ∷ raw) ≡ x → HasName (form_decoded (b ∷ raw)) (cond x (Int (number (b ∷ raw))) (Str (decoded (b ∷ raw)))) ↔ (covers_encoded (b ∷ raw) ≡ false)
    by true e =
        let d = index_digits (b ∷ raw) e in
        let s = digits_stay (b ∷ raw) d in
        (λ h. digits_cover (b ∷ raw) d, λ h. (ap is_index s ∙ e, ap number s))
    by false e = (λ h. (alike (b ∷ raw)).0 (sym h), λ h. sym ((alike (b ∷ raw)).1 h))

leaf_decoded : (piece : List ℕ) → leaf_text (piece_leaf piece) ≡ decoded (value_bytes piece)
leaf_decoded [] = refl
leaf_decoded (b ∷ bytes) = by (b == 61) (leaf_decoded bytes)
  where
    value_decoded : (bytes : List ℕ) → leaf_text (value_leaf bytes) ≡ decoded bytes
    value_decoded [] = refl
    value_decoded (b ∷ bytes) = refl

    by : (x : Bool) → leaf_text (piece_leaf bytes) ≡ decoded (value_bytes bytes) → leaf_text (cond x (value_leaf bytes) (piece_leaf bytes)) ≡ decoded (cond x bytes (value_bytes bytes))
    by true h = value_decoded bytes
    by false h = h

piece_alike : (piece : List ℕ) → IsNamed (name_value piece) (piece_pair piece) ↔ (covers_encoded piece ≡ false)
piece_alike piece = (
  λ h. covers_piece piece ∙ ap₂ (λ x y. x || y) ((name_alike (name_bytes piece)).0 h.name) ((alike (value_bytes piece)).0 (sym (leaf_decoded piece) ∙ sym h.value)),
  λ h.
      let g = or_both (covers_encoded (name_bytes piece)) (covers_encoded (value_bytes piece)) (sym (covers_piece piece) ∙ h) in
      record { assigned = refl; name = (name_alike (name_bytes piece)).1 g.0; value = sym (leaf_decoded piece ∙ (alike (value_bytes piece)).1 g.1) },
)

pieces_alike : (pieces : List (List ℕ)) → AreNamed (map name_value pieces) (map piece_pair pieces) ↔ (list_any covers_encoded pieces ≡ false)
pieces_alike [] = (λ h. refl, λ h. tt)
pieces_alike (piece ∷ pieces) = (
  λ h. ap₂ (λ x y. x || y) ((piece_alike piece).0 h.0) ((pieces_alike pieces).0 h.1),
  λ h. let g = or_both (covers_encoded piece) (list_any covers_encoded pieces) h in ((piece_alike piece).1 g.0, (pieces_alike pieces).1 g.1),
)

pub named_pieces : (input : List ℕ) → AreNamed (form_parsed input) (piece_pairs input) ↔ (covers_encoded input ≡ false)
named_pieces input =
    let h = pieces_alike (filter isnt_empty (split input)) in
    (λ n. covers_pieces input ∙ h.0 n, λ c. h.1 (sym (covers_pieces input) ∙ c))

pub named_alike : (is_form : Bool) (input : List ℕ) (pairs : List Pair) → ArePairs 0 (tokens is_form input) pairs → AreNamed (form_parsed input) pairs ↔ (covers_encoded input ≡ false)
named_alike is_form input pairs h =
    subst (λ (ps : List Pair). AreNamed (form_parsed input) ps ↔ (covers_encoded input ≡ false)) (sym ((pieces_alone is_form input pairs).0 h)) (named_pieces input)
