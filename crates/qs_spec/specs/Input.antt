-- Whole inputs: how many pairs they have, and which have the same pairs in another order.
use Rattle.std.specs.Prelude.{◌≡◌, ◌≢◌, ℕ, Bool, List, [], length}
use Rattle.qs_spec.specs.Token.{tokens}
use Rattle.qs_spec.specs.Grammar.{Pair, ArePairs}
use Rattle.qs_spec.specs.Order.{AreReordered}

-- the input has this many pairs
abbrev pub HasPairs : Bool → ℕ → List ℕ → ℕ → Type 0
HasPairs is_form depth bytes n = (pairs : List Pair) × ArePairs depth (tokens is_form bytes) pairs × (length pairs ≡ n)

-- the first input has pairs, and the second has the same pairs, ignoring escapes, in an order that keeps overlapping paths in order
pub record IsReordered (is_form : Bool) (depth : ℕ) (first second : List ℕ) : Type 0 where
  pub pairs : List Pair
  pub others : List Pair
  pub some : pairs ≢ []
  pub of_first : ArePairs depth (tokens is_form first) pairs
  pub of_second : ArePairs depth (tokens is_form second) others
  pub order : AreReordered pairs others
