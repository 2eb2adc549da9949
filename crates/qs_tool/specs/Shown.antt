-- Data as the command `any` shows them.
use Rattle.std.specs.Prelude.{ℕ, true, List, [], ◌∷◌, ◌++◌, codes}
use Rattle.qs_spec.specs.Escape.{encoded}
use Rattle.qs_spec.specs.Data.{Data, Values, no_values, one_value, Pairs, no_pairs, one_pair}

-- a text in form mode's escapes, between quotes
abbrev pub quoted : List ℕ → List ℕ
quoted text = codes "'" ++ (encoded true text ++ codes "'")

-- texts with a comma between each two
abbrev pub listed : List (List ℕ) → List ℕ
listed [] = []
listed (x ∷ []) = x
listed (x ∷ y ∷ rest) = x ++ (codes "," ++ listed (y ∷ rest))

-- texts in a list, and in a map
abbrev pub in_brackets : List (List ℕ) → List ℕ
in_brackets texts = codes "[" ++ (listed texts ++ codes "]")

abbrev pub in_braces : List (List ℕ) → List ℕ
in_braces texts = codes "{" ++ (listed texts ++ codes "}")

-- No value is `()`, a text `'t'`, a list `[x,y]`, a map `{'k':x,'l':y}`. Other data are never read by the shape that takes whatever
-- is there; each of them is `?`.
abbrev mutual
  pub shown : Data → List ℕ
  shown Data.unit = codes "()"
  shown (Data.text t) = quoted t
  shown (Data.sequence ds) = in_brackets (shown_values ds)
  shown (Data.mapping ps) = in_braces (shown_pairs ps)
  shown _ = codes "?"

  pub shown_values : Values → List (List ℕ)
  shown_values no_values = []
  shown_values (one_value d ds) = shown d ∷ shown_values ds

  pub shown_pairs : Pairs → List (List ℕ)
  shown_pairs no_pairs = []
  shown_pairs (one_pair k d ps) = (shown k ++ (codes ":" ++ shown d)) ∷ shown_pairs ps
