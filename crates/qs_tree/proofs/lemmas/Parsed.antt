-- From the tree of a result to all that `Parses` promises of it.
use Rattle.qs_tree.proofs.Common.{Global, ◌≡◌, ◌≢◌, ℕ, ◌+◌, ◌≤◌, ◌⊎◌, inl, inr, Bool, List, [], ◌∷◌, length, refl, sym, ap, ◌∙◌, IfOk, Option, None, Result, Ok, Err, ◌==◌, true, false, eqb-true, arith, rules, IfOk-weaker, Tree, IsTree, HasNoTree, Pair, ArePairs, tokens, AreReordered, AreEquivalent, escapes, one_tree, Error, Parse, OutOfMemory, ParsedValue, NoValue, the_lemmas, tree_of, IsParse, IfParse, IsOutOfMemory, OnlyOutOfMemory, OnlyParseOrOutOfMemory, owns, Returns, HoldsOf, IsOk, Token}
use Rattle.std.specs.declared.string.String.{String}
use Rattle.qs_spec.specs.Holds.{IsSound, leaf_count, nesting}
use Rattle.qs_spec.specs.Input.{HasPairs, IsReordered}
use Rattle.qs_spec.proofs.Sound as sound_trees
use Rattle.qs_spec.proofs.Equivalent as trees
use Rattle.qs_tree.proofs.lemmas.tree.Owned.{owns_escaped}
use Rattle.qs_tree.specs.Parsing.{Parses, AllocatesNothing}
use Rattle.qs_tree.specs.internal.Parsing.{grown, Reports}
use Rattle.qs_tree.specs.declared.parsing.scan_error.ScanError.{ScanError}
use Rattle.qs_tree.specs.declared.parsing.scan_error.ScanError.TheVariants as scan_error
use Rattle.qs_spec.specs.Tree.Tree.{uninitialized}
use Rattle.qs_tree.proofs.lemmas.Growing.{result_tree, result_rejected}

-- the pairs of an input that has a tree
pairs_counted : (is_form : Bool) (depth : ℕ) (bytes : List ℕ) (t : Tree) → IsTree is_form depth bytes t → bytes ≢ [] → HasPairs is_form depth bytes (leaf_count t)
pairs_counted is_form depth [] t h some = absurd (some refl)
pairs_counted is_form depth (b ∷ bytes) t h some = (h.0, h.1.grammar, sym (trees.leaves is_form depth b bytes h.0 t h.1.grammar h))

module _ (is_form : Bool) (depth : ℕ) (bytes : List ℕ) (r : Result ParsedValue Error) (tree : IfOk r (λ v. IsTree is_form depth bytes (tree_of v))) where
  pub borrowed : (t : Tree) → IsTree is_form depth bytes t → IfOk r (λ v. owns v ≡ escapes t)
  borrowed t h = IfOk-weaker r _ (λ v. owns v ≡ escapes t) (λ v g. owns_escaped v ∙ ap escapes (one_tree is_form depth bytes (tree_of v) t g h)) tree

  pub leaves : bytes ≢ [] → IfOk r (λ v. HasPairs is_form depth bytes (leaf_count (tree_of v)))
  leaves some = IfOk-weaker r _ (λ v. HasPairs is_form depth bytes (leaf_count (tree_of v))) (λ v g. pairs_counted is_form depth bytes (tree_of v) g some) tree

  pub nested : IfOk r (λ v. nesting (tree_of v) ≤ depth + 2)
  nested = IfOk-weaker r _ (λ v. nesting (tree_of v) ≤ depth + 2) (λ v g. trees.nests is_form depth bytes (tree_of v) g) tree

  pub sound : IfOk r (λ v. IsSound (tree_of v))
  sound = IfOk-weaker r _ (λ v. IsSound (tree_of v)) (λ v g. sound_trees.sound is_form depth bytes (tree_of v) g) tree

-- an order of an input's pairs
pub equivalent : (is_form : Bool) (depth : ℕ) (bytes other : List ℕ) → IsReordered is_form depth bytes other → AreEquivalent is_form depth bytes other
equivalent is_form depth bytes other h = by h.pairs h.some h.of_first h.order
  where
    by : (pairs : List Pair) → pairs ≢ [] → ArePairs depth (tokens is_form bytes) pairs → AreReordered pairs h.others → AreEquivalent is_form depth bytes other
    by [] some first order = absurd (some refl)
    by (p ∷ ps) some first order = trees.equivalent_by_places is_form depth bytes other p ps h.others first h.of_second order

module _ (is_form : Bool) (depth : ℕ) (bytes : List ℕ) (expected : Option Tree) (bound : ℕ) where
  -- what such a result can be: a value, `Parse` or `OutOfMemory`
  only : (P : Result ParsedValue Error → Type 0) → ((v : ParsedValue) → P (Ok v)) → ((message : String Global) (at : ℕ) → at ≤ bound → P (Err (Parse message at))) → P (Err OutOfMemory)
      → (r : Result ParsedValue Error) → Returns tree_of expected bound r → P r
  only P value parse memory (Ok v) outcome = value v
  only P value parse memory (Err (Parse message at)) outcome = parse message at outcome.1
  only P value parse memory (Err OutOfMemory) outcome = memory
  only P value parse memory (Err error) outcome = absurd outcome

  pub accepted : (r : Result ParsedValue Error) → Returns tree_of expected bound r → (IsParse r → HasNoTree is_form depth bytes) → (t : Tree) → IsTree is_form depth bytes t → OnlyOutOfMemory r
  accepted r outcome no_tree t h =
      only (λ r. (IsParse r → HasNoTree is_form depth bytes) → OnlyOutOfMemory r) (λ v none. tt) (λ message at le none. absurd (none tt t h)) (λ none. tt) r outcome no_tree

  pub rejected : (r : Result ParsedValue Error) → Returns tree_of expected bound r → IfOk r (λ v. IsTree is_form depth bytes (tree_of v)) → HasNoTree is_form depth bytes → IsParse r ⊎ IsOutOfMemory r
  rejected r outcome tree none =
      only (λ r. IfOk r (λ v. IsTree is_form depth bytes (tree_of v)) → IsParse r ⊎ IsOutOfMemory r) (λ v h. absurd (none (tree_of v) h)) (λ message at le h. inl tt) (λ h. inr tt) r outcome tree

  pub position : (r : Result ParsedValue Error) → Returns tree_of expected bound r → IfParse r (λ at. at ≤ bound)
  position = only (λ r. IfParse r (λ at. at ≤ bound)) (λ v. tt) (λ message at le. le) tt

  pub errors : (r : Result ParsedValue Error) → Returns tree_of expected bound r → OnlyParseOrOutOfMemory r
  errors = only OnlyParseOrOutOfMemory (λ v. tt) (λ message at le. tt) tt

module _ (is_form : Bool) (depth : ℕ) (bytes : List ℕ) where
  pub reordered : (r : Result ParsedValue Error) → IfOk r (λ v. IsTree is_form depth bytes (tree_of v)) → (IsParse r → HasNoTree is_form depth bytes)
      → (other : List ℕ) → IsReordered is_form depth bytes other → HoldsOf is_form depth other r
  reordered (Ok v) tree no_tree other h = (equivalent is_form depth bytes other h).there (tree_of v) tree
  reordered (Err (Parse message at)) tree no_tree other h = λ u g. let was = (equivalent is_form depth bytes other h).back u g in no_tree tt was.0 was.1
  reordered (Err error) tree no_tree other h = tt

-- the empty input
pub empty_tree : (is_form : Bool) (depth : ℕ) (bytes : List ℕ) → (length bytes == 0) ≡ true → IsTree is_form depth bytes (tree_of NoValue)
empty_tree is_form depth [] e = search (rules, the_lemmas)
empty_tree is_form depth (b ∷ bytes) e = absurd (omega (arith, eqb-true (length (b ∷ bytes)) 0 e))

pub empty_is_unallocated : (bytes : List ℕ) → (length bytes == 0) ≡ true → AllocatesNothing bytes
empty_is_unallocated [] e = refl
empty_is_unallocated (b ∷ bytes) e = absurd (omega (arith, eqb-true (length (b ∷ bytes)) 0 e))

-- all that is promised of a result, from what it is in terms of the tokens of the input
module _ (is_form : Bool) (depth : ℕ) (bytes : List ℕ) (some : (length bytes == 0) ≡ false) (limit : ℕ) (ts : List Token) (d : limit ≡ depth) (e : ts ≡ tokens is_form bytes) where
  pub parses : (r : Result ParsedValue Error) → Returns tree_of (grown limit ts uninitialized) (length bytes + 1) r → (AllocatesNothing bytes → IsOk r) → Parses is_form depth bytes r
  parses r returned no_allocation =
      let tree = result_tree is_form depth bytes some limit ts d e (length bytes + 1) r returned in
      let no_tree = result_rejected is_form depth bytes some limit ts d e (length bytes + 1) r returned in
      record {
        tree = tree;
        no_tree = no_tree;
        accepted = accepted is_form depth bytes _ _ r returned no_tree;
        rejected = rejected is_form depth bytes _ _ r returned tree;
        position = position is_form depth bytes _ _ r returned;
        errors = errors is_form depth bytes _ _ r returned;
        no_allocation = no_allocation;
        borrowed = borrowed is_form depth bytes r tree;
        leaves = leaves is_form depth bytes r tree;
        nesting = nested is_form depth bytes r tree;
        sound = sound is_form depth bytes r tree;
        equivalent = equivalent is_form depth bytes;
        reordered = reordered is_form depth bytes r tree no_tree;
      }

-- the public error of a scan error
pub reported : (expected : Option Tree) (bound : ℕ) (e : ScanError) (error : Error) → (e ≢ scan_error.OutOfMemory → expected ≡ None) → Reports e bound error → Returns tree_of expected bound (Err error)
reported expected bound e (Parse message at) none h = (none h.0, h.1)
reported expected bound e OutOfMemory none h = tt
reported expected bound e error none h = absurd h

-- such an error under a greater bound
pub reports_within : (e : ScanError) (bound more : ℕ) → bound ≤ more → (error : Error) → Reports e bound error → Reports e more error
reports_within e bound more le (Parse message at) h = (h.0, omega (arith, h.1, le))
reports_within e bound more le OutOfMemory h = tt
reports_within e bound more le error h = absurd h

-- the position of an error, where so many steps were taken
pub reports_steps : (e : ScanError) (bound before after : ℕ) → before + bound ≤ after → (error : Error) → Reports e bound error
    → IfParse {T = ParsedValue} (Err error) (λ position. before + position ≤ after)
reports_steps e bound before after le (Parse message at) h = omega (arith, h.1, le)
reports_steps e bound before after le OutOfMemory h = tt
reports_steps e bound before after le error h = absurd h
