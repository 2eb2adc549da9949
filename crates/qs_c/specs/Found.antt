-- The result of parsing at the front of a text.
use Rattle.std.specs.Prelude.{ℕ, List, ◌++◌}

-- what was parsed, with the text after it; or why parsing stopped, with the text that wasn't parsed
pub data Found (A : Type 0) : Type 0 where
  found : A → (rest : List ℕ) → Found A
  fault : (reason rest : List ℕ) → Found A

-- parses at the front of a text
abbrev pub Parser : Type 0 → Type 0
Parser A = List ℕ → Found A

-- one thing and then another
unfoldable pub and_then : {A B : Type 0} → Found A → (A → List ℕ → Found B) → Found B
and_then (found a rest) f = f a rest
and_then (fault reason rest) f = fault reason rest

-- the same, with `f` applied to what was parsed
unfoldable pub seen : {A B : Type 0} → (A → B) → Found A → Found B
seen f (found a rest) = found (f a) rest
seen f (fault reason rest) = fault reason rest

-- the same, with the items of `front` before it
abbrev pub before : {A : Type 0} → List A → Found (List A) → Found (List A)
before front r = seen (λ xs. front ++ xs) r
