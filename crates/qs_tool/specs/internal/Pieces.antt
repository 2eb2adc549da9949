-- The pieces of a line that are still to be written.
use Rattle.std.specs.Prelude.{ℕ, ◌≡◌, ◌<◌, List, [], ◌∷◌, ◌++◌, length, codes}
use Rattle.std.specs.List.{fold}
use Rattle.qs_data.specs.data.Views.{data_of, values_in, pairs_in}
use Rattle.qs_tool.specs.declared.showing.Pending.{Pending}
use Rattle.qs_tool.specs.declared.showing.Pending.TheVariants.{Datum, Items, Value, Pairs}
use Rattle.qs_tool.specs.Shown.{shown, shown_values, shown_pairs}

-- texts with a comma before each
abbrev pub after_commas : List (List ℕ) → List ℕ
after_commas [] = []
after_commas (x ∷ rest) = codes "," ++ (x ++ after_commas rest)

-- the items that are left of a list, and what closes it
abbrev pub items_left : List (List ℕ) → List ℕ
items_left texts = after_commas texts ++ codes "]"

-- the pairs that are left of a map, and what closes it
abbrev pub pairs_left : List (List ℕ) → List ℕ
pairs_left texts = after_commas texts ++ codes "}"

-- what is written of a piece
abbrev pub piece_text : Pending → List ℕ
piece_text (Datum datum) = shown (data_of datum.now)
piece_text (Items items) = items_left (shown_values (values_in items.now))
piece_text (Value value) = codes ":" ++ shown (data_of value.now)
piece_text (Pairs pairs) = pairs_left (shown_pairs (pairs_in pairs.now))

-- the text before what is to be written
abbrev pub before : List ℕ → Pending → List ℕ
before rest piece = piece_text piece ++ rest

-- what is written of a stack of pieces, the last one first
abbrev pub text_of_stack : List Pending → List ℕ
text_of_stack = fold before []

-- A text was begun: the line grew, and with what is left on the stack it has the text, and after it what was on the stack.
pub record Begins (text line : List ℕ) (stack : List Pending) (line_after : List ℕ) (stack_after : List Pending) : Type 0 where
  pub whole : line_after ++ text_of_stack stack_after ≡ line ++ (text ++ text_of_stack stack)
  pub grows : length line < length line_after
