-- Escaped brackets in a key that the mode doesn't read as brackets.
use Rattle.std.specs.Prelude.{ℕ, ◌+◌, Bool, true, false, not, ◌&&◌, ◌||◌, ◌==◌, List, [], ◌∷◌, Option, Some, None, if◌then◌else◌}
use Rattle.qs_explain.specs.declared.hint.Hint.{Hint}
use Rattle.qs_explain.specs.declared.hint.Hint.TheVariants.{Escaped, LowerCase}

-- `%5B`, `%5D`, `%5b` or `%5d`, of which form mode reads the first two
abbrev pub is_unread_bracket : Bool → ℕ → ℕ → ℕ → Bool
is_unread_bracket is_form b c e = b == 37 && c == 53 && (e == 98 || e == 100 || (not is_form && (e == 66 || e == 68)))

-- a key begins after `&`, and ends at `=`, in brackets too
abbrev pub is_key_after : Bool → ℕ → Bool
is_key_after in_key b = b == 38 || (in_key && not (b == 61))

-- The position after the first such bracket in a key. n bytes precede the rest; the last two are b and c.
abbrev pub bracket_from : Bool → (in_key : Bool) → (n b c : ℕ) → List ℕ → Option ℕ
bracket_from is_form in_key n b c [] = None
bracket_from is_form in_key n b c (e ∷ rest) =
    if in_key && is_unread_bracket is_form b c e then Some (n + 1) else bracket_from is_form (is_key_after in_key e) (n + 1) c e rest

-- the same for a whole input, which begins with a key
abbrev pub unread_bracket : Bool → List ℕ → Option ℕ
unread_bracket is_form input = bracket_from is_form true 0 0 0 input

-- the hint with this position
abbrev pub hint_of : Bool → ℕ → Hint
hint_of true position = LowerCase position
hint_of false position = Escaped position
