-- Names that suit the fields, and names in UTF-8, by tests that compute: for the names in a program, the check needs no proof.
use Rattle.std.specs.Prelude.{◌≡◌, refl, true, false, ℕ, ◌+◌, ◌-◌, ◌*◌, ◌/◌, Bool, ◌&&◌, cond, nat_le, nat_lt, List, [], ◌∷◌, ◌++◌}
use Rattle.std.specs.Str.{bytes_eq}
use lib.Utf8.{next, scalars}

-- the bytes of a character in UTF-8
abbrev pub encoded : ℕ → List ℕ
encoded c =
    cond (nat_lt c 128) (c ∷ [])
    (cond (nat_lt c 2048) ((192 + c / 64) ∷ next c ∷ [])
    (cond (nat_lt c 65536) ((224 + c / 4096) ∷ next (c / 64) ∷ next c ∷ []) ((240 + c / 262144) ∷ next (c / 4096) ∷ next (c / 64) ∷ next c ∷ [])))

abbrev pub all_encoded : List ℕ → List ℕ
all_encoded [] = []
all_encoded (c ∷ cs) = encoded c ++ all_encoded cs

-- The number of the continuation bytes in front, the weight of what precedes them, and the characters after them. Of bytes that aren't UTF-8 it is
-- anything.
abbrev pub Front : Type 0
Front = ℕ × ℕ × List ℕ

-- a first byte without the bits that say how many bytes follow
abbrev pub lead : ℕ → ℕ
lead b = cond (nat_lt b 128) b (cond (nat_lt b 224) (b - 192) (cond (nat_lt b 240) (b - 224) (b - 240)))

abbrev pub byte_before : ℕ → Front → Front
byte_before b f = cond (nat_le 128 b && nat_lt b 192) (f.0 + (b - 128) * f.1, f.1 * 64, f.2) (0, 1, (lead b * f.1 + f.0) ∷ f.2)

abbrev pub front : List ℕ → Front
front [] = (0, 1, [])
front (b ∷ bs) = byte_before b (front bs)

-- the bytes are the encoding of the characters that they were decoded to
abbrev pub is_text : List ℕ → Bool
is_text bs = scalars (front bs).2 && bytes_eq (all_encoded (front bs).2) bs

-- The names don't suit the fields: there are too few or too many, two that belong together are equal, or one isn't UTF-8. Nothing is of this type.
pub data NamesDoNotSuitFields : Type 0 where

-- The names suit the fields, as a type that computes, so that `_` stands for its proof.
abbrev pub NamesSuitFields : Bool → Type 0
NamesSuitFields true = Unit {0}
NamesSuitFields false = NamesDoNotSuitFields

pub suited : (b : Bool) → NamesSuitFields b → b ≡ true
suited true h = refl
suited false h = elim h [ ]
