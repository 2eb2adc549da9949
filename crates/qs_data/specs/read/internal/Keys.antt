-- The keys of a node: steps of their proofs.
use Rattle.std.specs.Prelude.{◌≡◌, ℕ, zero, suc, ◌<◌, ◌^◌, Bool, true, false, cond, List, [], ◌∷◌, Option, Some, None, decimal}
use Rattle.std.specs.Borrow.{Bor}
use Rattle.qs_tree.specs.declared.tree.value.ParsedValue.{ParsedValue}
use Rattle.qs_spec.specs.Tree as t
use Rattle.qs_spec.specs.Tree.Entries.{no_entries, entry}
use Rattle.qs_tree.specs.tree.Views.{tree_of}
use Rattle.qs_spec.specs.Shape as s
use Rattle.qs_data.specs.declared.read.unknown.UnknownKeys.{UnknownKeys}
use Rattle.qs_data.specs.declared.read.unknown.UnknownKeys.TheVariants as u

abbrev pub unknown_of : UnknownKeys → s.UnknownKeys
unknown_of u.Ignored = s.UnknownKeys.ignored
unknown_of u.Rejected = s.UnknownKeys.rejected

-- the value that was looked up
abbrev pub value_in : Option (Bor ParsedValue) → List t.Tree
value_in None = []
value_in (Some value) = tree_of value.now ∷ []

-- the number of 32 bits whose digits these are, if there is one
abbrev pub ParsesNumber : Option ℕ → List ℕ → Type 0
ParsesNumber None name = (n : ℕ) → n < 2 ^ 32 → decimal n ≡ name → ⊥
ParsesNumber (Some n) name = (n < 2 ^ 32) × (decimal n ≡ name)

-- the entries from an index on
abbrev pub entries_after : ℕ → t.Entries → t.Entries
entries_after zero es = es
entries_after (suc i) no_entries = no_entries
entries_after (suc i) (entry k escaped t es) = entries_after i es

-- nothing more to return, if a test is passed
abbrev pub when : Bool → Option (Unit {0})
when true = Some tt
when false = None

-- a test as a result
abbrev pub passed : Bool → Option Bool
passed b = cond b (Some true) None
