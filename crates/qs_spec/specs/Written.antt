-- The text of entries.
use Rattle.std.specs.Prelude.{ℕ, Bool, true, false, ◌||◌, cond, List, [], ◌∷◌, ◌++◌, Option, Some, None}
use Rattle.qs_spec.specs.Escape.{encoded}
use Rattle.qs_spec.specs.Entry.{Path, Entry}

-- `[` and `]`, which form mode escapes
abbrev pub open_bytes : Bool → List ℕ
open_bytes is_form = cond is_form (37 ∷ 53 ∷ 66 ∷ []) (91 ∷ [])

abbrev pub close_bytes : Bool → List ℕ
close_bytes is_form = cond is_form (37 ∷ 53 ∷ 68 ∷ []) (93 ∷ [])

-- segments in brackets
abbrev pub brackets_text : Bool → Path → List ℕ
brackets_text is_form [] = []
brackets_text is_form (s ∷ path) = open_bytes is_form ++ (encoded is_form s ++ (close_bytes is_form ++ brackets_text is_form path))

-- the first segment, and the others in brackets
unfoldable pub path_text : Bool → Path → List ℕ
path_text is_form [] = []
path_text is_form (s ∷ path) = encoded is_form s ++ brackets_text is_form path

-- `=` and the value, if there is a value
abbrev pub value_text : Bool → Option (List ℕ) → List ℕ
value_text is_form None = []
value_text is_form (Some bytes) = 61 ∷ encoded is_form bytes

-- the path isn't empty
abbrev pub has_key : Path → Bool
has_key [] = false
has_key (s ∷ path) = true

-- `&` precedes an entry with a key if an entry with a key was written before
unfoldable pub entry_text : Bool → Bool → Path → Option (List ℕ) → List ℕ
entry_text is_form started path value = cond (has_key path) (cond started (38 ∷ []) []) [] ++ (path_text is_form path ++ value_text is_form value)

-- the entries one after another; `started` says whether an entry with a key was written before
unfoldable pub written : Bool → Bool → List Entry → List ℕ
written is_form started [] = []
written is_form started (e ∷ es) = entry_text is_form started e.path e.value ++ written is_form (started || has_key e.path) es

-- whether an entry with a key has been written after these
unfoldable pub started_after : Bool → List Entry → Bool
started_after started [] = started
started_after started (e ∷ es) = started_after (started || has_key e.path) es
