-- The number of a raw segment, read from left to right.
use Rattle.qs_tree.proofs.Common.{◌≡◌, ◌≢◌, ℕ, ◌+◌, ◌-◌, ◌*◌, ◌≤◌, ◌==◌, Bool, true, false, cond, ◌&&◌, ◌||◌, nat_le, List, [], ◌∷◌, refl, sym, ap, ap₂, ◌∙◌, arith, Some, None, fold, list_all, le-leb, lt-leb, leb-true, leb-false, is_between, has_escape, decoded, is_index, number, segment_of, parsed_segment_of, Int, Str, and_both, same_Some, CowSlice, Borrowed, Owned, segment_of_key, is_owned_key, parsed_segment_of_key, index_of, index_from, eqb-true, Global}
use Rattle.std.specs.Cow.{cow_slice_items}
use Rattle.qs_tree.specs.declared.tree.key.Key.TheVariants as variant
use Rattle.qs_tree.specs.escape.Copies.{is_owned}

-- one digit more
abbrev digit : ℕ → ℕ → ℕ
digit n b = 10 * n + (b - 48)

grows : (n : ℕ) (raw : List ℕ) → n ≤ fold digit n raw
grows n [] = omega arith
grows n (b ∷ raw) = omega (arith, grows (digit n b) raw)

from : (n : ℕ) (raw : List ℕ) → n ≤ 4294967295 → index_from n raw ≡ cond (list_all (is_between 48 57) raw && nat_le (fold digit n raw) 4294967295) (Some (fold digit n raw)) None
from n [] h = sym (ap (λ b. cond b (Some n) None) (le-leb n 4294967295 h))
from n (b ∷ raw) h = by (is_between 48 57 b) (nat_le (digit n b) 4294967295) refl (from (digit n b) raw)
  where
    by : (x y : Bool) → nat_le (digit n b) 4294967295 ≡ y
        → (digit n b ≤ 4294967295 → index_from (digit n b) raw ≡ cond (list_all (is_between 48 57) raw && nat_le (fold digit (digit n b) raw) 4294967295) (Some (fold digit (digit n b) raw)) None)
        → cond (x && y) (index_from (digit n b) raw) None
        ≡ cond ((x && list_all (is_between 48 57) raw) && nat_le (fold digit (digit n b) raw) 4294967295) (Some (fold digit (digit n b) raw)) None
    by false y e h = refl
    by true true e h = h (leb-true (digit n b) 4294967295 e)
    by true false e h = sym (ap (λ z. cond z (Some (fold digit (digit n b) raw)) None) (none (list_all (is_between 48 57) raw)))
      where
        none : (z : Bool) → (z && nat_le (fold digit (digit n b) raw) 4294967295) ≡ false
        none false = refl
        none true = lt-leb _ 4294967295 (omega (arith, leb-false (digit n b) 4294967295 e, grows (digit n b) raw))

-- what is parsed from left to right is the number of an index
pub index_parsed : (raw : List ℕ) → raw ≢ [] → index_from 0 raw ≡ index_of raw
index_parsed [] n = absurd (n refl)
index_parsed (b ∷ raw) n = from 0 (b ∷ raw) (omega arith)

-- digits are no escapes
digits_plain : (raw : List ℕ) → list_all (is_between 48 57) raw ≡ true → has_escape raw ≡ false
digits_plain [] e = refl
digits_plain (b ∷ raw) e =
    let parts = and_both (is_between 48 57 b) (list_all (is_between 48 57) raw) e in
    let low = leb-true 48 b (and_both (nat_le 48 b) (nat_le b 57) parts.0).0 in
    by (b == 43) (b == 37) refl refl low (digits_plain raw parts.1)
  where
    by : (x y : Bool) → (b == 43) ≡ x → (b == 37) ≡ y → 48 ≤ b → has_escape raw ≡ false → ((x || y) || has_escape raw) ≡ false
    by true y d e l h = absurd (omega (arith, eqb-true b 43 d))
    by false true d e l h = absurd (omega (arith, eqb-true b 37 e))
    by false false d e l h = h

index_plain : (raw : List ℕ) → is_index raw ≡ true → has_escape raw ≡ false
index_plain [] e = refl
index_plain (b ∷ raw) e = digits_plain (b ∷ raw) (and_both (list_all (is_between 48 57) (b ∷ raw)) _ e).0

pub number_key : (raw : List ℕ) (n : ℕ) → Some n ≡ index_of raw → parsed_segment_of_key (variant.Int n) ≡ parsed_segment_of raw
number_key raw n e = by (is_index raw) refl e
  where
    by : (x : Bool) → is_index raw ≡ x → Some n ≡ cond x (Some (number raw)) None → parsed_segment_of_key (variant.Int n) ≡ parsed_segment_of raw
    by true i e =
        let same : n ≡ number raw = same_Some n (number raw) e in
        let segment : Int n ≡ segment_of raw = ap Int same ∙ sym (ap (λ y. cond y (Int (number raw)) (Str (decoded raw))) i) in
        ap₂ (λ s m. record { segment = s; escaped = m }) segment (sym (index_plain raw i))
    by false i e = cc

pub string_key : (raw : List ℕ) (text : CowSlice ℕ Global) → None ≡ index_of raw → cow_slice_items text ≡ decoded raw → is_owned text ≡ has_escape raw → parsed_segment_of_key (variant.String text) ≡ parsed_segment_of raw
string_key raw text e d m = by (is_index raw) refl e
  where
    seg_of : (text : CowSlice ℕ Global) → segment_of_key (variant.String text) ≡ Str (cow_slice_items text)
    seg_of (Borrowed r) = refl
    seg_of (Owned v) = refl

    escaped_of : (text : CowSlice ℕ Global) → is_owned_key (variant.String text) ≡ is_owned text
    escaped_of (Borrowed r) = refl
    escaped_of (Owned v) = refl

    by : (x : Bool) → is_index raw ≡ x → None ≡ cond x (Some (number raw)) None → parsed_segment_of_key (variant.String text) ≡ parsed_segment_of raw
    by true i e = cc
    by false i e =
        let segment : segment_of_key (variant.String text) ≡ segment_of raw = seg_of text ∙ ap Str d ∙ sym (ap (λ y. cond y (Int (number raw)) (Str (decoded raw))) i) in
        ap₂ (λ s m. record { segment = s; escaped = m }) segment (escaped_of text ∙ m)
