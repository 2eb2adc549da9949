-- What the pairs of an input make of a tree, item by item.
use Rattle.qs_tree.proofs.Common.{◌≡◌, ℕ, ◌==◌, Bool, false, IfOk, List, [], ◌∷◌, length, refl, sym, ap, ◌∙◌, subst, Option, Some, None, option_map, option_and_then, Result, Ok, Err, none-some, Token, tokens, Pair, Tree, IsTree, HasNoTree, uninitialized, parsed_pairs, add, add_all, Error, Parse, ParsedValue, tree_of, IsParse, grown, Returns}
use Rattle.qs_spec.proofs.RelatedIsParsed.{found_pairs, are_pairs}
use Rattle.qs_spec.proofs.Scan.{in_place}

module _ (depth : ℕ) (ts : List Token) (t : Tree) where
  pub grown_same : (us : List Token) → parsed_pairs depth ts ≡ parsed_pairs depth us → grown depth ts t ≡ grown depth us t
  grown_same us e = ap (option_and_then (λ ps. add_all ps t)) e

  pub grown_pair : (us : List Token) (p : Pair) (u : Tree) → parsed_pairs depth ts ≡ option_map (λ ps. p ∷ ps) (parsed_pairs depth us) → add p.path p.push p.leaf t ≡ Some u → grown depth ts t ≡ grown depth us u
  grown_pair us p u e a = ap (option_and_then (λ ps. add_all ps t)) e ∙ by (parsed_pairs depth us)
    where
      by : (o : Option (List Pair)) → option_and_then (λ ps. add_all ps t) (option_map (λ ps. p ∷ ps) o) ≡ option_and_then (λ ps. add_all ps u) o
      by None = refl
      by (Some ps) = ap (option_and_then (add_all ps)) a

-- all pairs of an input make its tree, or none
module _ (is_form : Bool) (depth b : ℕ) (bytes : List ℕ) where
  pub grown_tree : (t : Tree) → grown depth (tokens is_form (b ∷ bytes)) uninitialized ≡ Some t → IsTree is_form depth (b ∷ bytes) t
  grown_tree t e = by (parsed_pairs depth (tokens is_form (b ∷ bytes))) refl e
    where
      by : (o : Option (List Pair)) → parsed_pairs depth (tokens is_form (b ∷ bytes)) ≡ o → option_and_then (λ ps. add_all ps uninitialized) o ≡ Some t → IsTree is_form depth (b ∷ bytes) t
      by None d e = absurd (none-some t e)
      by (Some ps) d e = (in_place is_form depth b bytes ps t (are_pairs depth (tokens is_form (b ∷ bytes)) ps d)).0 e

  pub grown_without_tree : grown depth (tokens is_form (b ∷ bytes)) uninitialized ≡ None → HasNoTree is_form depth (b ∷ bytes)
  grown_without_tree e t h =
      let pairs = found_pairs h.1.grammar in
      let whole = (in_place is_form depth b bytes h.0 t h.1.grammar).1 h in
      none-some t (sym e ∙ ap (option_and_then (λ ps. add_all ps uninitialized)) pairs ∙ whole)

-- a result for the tokens of an input is one for the input
module _ (is_form : Bool) (depth : ℕ) (bytes : List ℕ) (some : (length bytes == 0) ≡ false) (limit : ℕ) (ts : List Token) (d : limit ≡ depth) (e : ts ≡ tokens is_form bytes) (bound : ℕ) where
  about : (r : Result ParsedValue Error) → Returns tree_of (grown limit ts uninitialized) bound r → Returns tree_of (grown depth (tokens is_form bytes) uninitialized) bound r
  about r h = subst (λ n. Returns tree_of (grown n (tokens is_form bytes) uninitialized) bound r) d (subst (λ l. Returns tree_of (grown limit l uninitialized) bound r) e h)

  pub result_tree : (r : Result ParsedValue Error) → Returns tree_of (grown limit ts uninitialized) bound r → IfOk r (λ v. IsTree is_form depth bytes (tree_of v))
  result_tree (Ok v) h = by bytes some (about (Ok v) h)
    where
      by : (bytes : List ℕ) → (length bytes == 0) ≡ false → grown depth (tokens is_form bytes) uninitialized ≡ Some (tree_of v) → IsTree is_form depth bytes (tree_of v)
      by [] n a = cc
      by (b ∷ bytes) n a = grown_tree is_form depth b bytes (tree_of v) a
  result_tree (Err f) h = tt

  pub result_rejected : (r : Result ParsedValue Error) → Returns tree_of (grown limit ts uninitialized) bound r → IsParse r → HasNoTree is_form depth bytes
  result_rejected (Err (Parse message at)) h p = by bytes some (about (Err (Parse message at)) h).0
    where
      by : (bytes : List ℕ) → (length bytes == 0) ≡ false → grown depth (tokens is_form bytes) uninitialized ≡ None → HasNoTree is_form depth bytes
      by [] n a = cc
      by (b ∷ bytes) n a = grown_without_tree is_form depth b bytes a
  result_rejected r h p = absurd p
