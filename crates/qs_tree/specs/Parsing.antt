-- What the clauses of `parse` promise for an input.
use Rattle.std.specs.Prelude.{◌≡◌, ◌≢◌, ℕ, ◌+◌, ◌≤◌, ◌⊎◌, Bool, false, not, ◌&&◌, ◌||◌, ◌==◌, List, [], ◌∷◌, length, Result, Ok, Err, IfOk, IsOk, IsTrue, ⊤}
use Rattle.std.specs.List.{list_all}
use Rattle.qs_spec.specs.Tree.{Tree, IsTree, HasNoTree}
use Rattle.qs_spec.specs.Holds.{IsSound, leaf_count, nesting}
use Rattle.qs_spec.specs.Order.{AreEquivalent, ignoring_escapes}
use Rattle.qs_spec.specs.Input.{HasPairs, IsReordered}
use Rattle.qs_spec.specs.Escapes.{escapes}
use Rattle.qs_tree.specs.Error.{IsParse, IfParse, IsOutOfMemory, OnlyOutOfMemory, OnlyParseOrOutOfMemory}
use Rattle.qs_tree.specs.declared.error.Error.{Error}
use Rattle.qs_tree.specs.declared.error.Error.TheVariants.{Parse}
use Rattle.qs_tree.specs.declared.tree.value.ParsedValue.{ParsedValue}
use Rattle.qs_tree.specs.escape.Classes.{is_ampersand}
use Rattle.qs_tree.specs.tree.Owned.{owns}
use Rattle.qs_tree.specs.tree.Views.{tree_of}

-- `&` alone, or nothing
abbrev pub is_ampersands : List ℕ → Bool
is_ampersands bytes = list_all is_ampersand bytes

-- no `&`, `+` or `%`
abbrev pub is_unescaped : List ℕ → Bool
is_unescaped bytes = list_all (λ b. not (b == 38 || b == 43 || b == 37)) bytes

-- `=`, and after it no `&`, `+` or `%`
abbrev pub is_unescaped_value : List ℕ → Bool
is_unescaped_value [] = false
is_unescaped_value (b ∷ value) = b == 61 && is_unescaped value

-- Inputs for which nothing is allocated: the empty input, `&` alone, or an empty key with a value without `&`, `+` and `%`.
abbrev pub AllocatesNothing : List ℕ → Type 0
AllocatesNothing bytes = IsTrue (is_ampersands bytes || is_unescaped_value bytes)

-- this input has the tree of the result, ignoring ownership, or no tree if the result is a `Parse` error
abbrev pub HoldsOf : Bool → ℕ → List ℕ → Result ParsedValue Error → Type 0
HoldsOf is_form depth bytes (Ok value) = (t : Tree) × IsTree is_form depth bytes t × (ignoring_escapes t ≡ ignoring_escapes (tree_of value))
HoldsOf is_form depth bytes (Err (Parse message position)) = HasNoTree is_form depth bytes
HoldsOf is_form depth bytes (Err _) = ⊤

-- What `parse` promises for its result.
pub record Parses (is_form : Bool) (max_depth : ℕ) (input : List ℕ) (result : Result ParsedValue Error) : Type 0 where
  -- the value has the input's tree, and there is an error exactly if the input has no tree
  pub tree : IfOk result (λ value. IsTree is_form max_depth input (tree_of value))
  pub no_tree : IsParse result → HasNoTree is_form max_depth input
  pub accepted : (t : Tree) → IsTree is_form max_depth input t → OnlyOutOfMemory result
  pub rejected : HasNoTree is_form max_depth input → IsParse result ⊎ IsOutOfMemory result
  -- errors
  pub position : IfParse result (λ position. position ≤ length input + 1)
  pub errors : OnlyParseOrOutOfMemory result
  -- memory
  pub no_allocation : AllocatesNothing input → IsOk result
  pub borrowed : (t : Tree) → IsTree is_form max_depth input t → IfOk result (λ value. owns value ≡ escapes t)
  -- the form of the tree
  pub leaves : input ≢ [] → IfOk result (λ value. HasPairs is_form max_depth input (leaf_count (tree_of value)))
  pub nesting : IfOk result (λ value. nesting (tree_of value) ≤ max_depth + 2)
  pub sound : IfOk result (λ value. IsSound (tree_of value))
  -- permutations of the pairs that keep dependent pairs in order
  pub equivalent : (other : List ℕ) → IsReordered is_form max_depth input other → AreEquivalent is_form max_depth input other
  pub reordered : (other : List ℕ) → IsReordered is_form max_depth input other → HoldsOf is_form max_depth other result
