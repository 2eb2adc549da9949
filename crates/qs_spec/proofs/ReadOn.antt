-- The reader goes on after what it read, whatever the number of turns that it is given.
use Rattle.std.proofs.Common.{◌≡◌, ℕ, ◌≤◌, false, List, ◌∷◌, length, refl, sym, ap, ◌∙◌, subst, arith, Option, Some, None, option_map, length-append}
use Rattle.qs_spec.specs.Token.{Token}
use Rattle.qs_spec.specs.Token.TokenKind.{Amp}
use Rattle.qs_spec.specs.Grammar.{Pair, IsPair, is_amp}
use Rattle.qs_spec.specs.internal.Parsing.{Rest, parsed_pair, parsed_pairs_at, parsed_pairs_within, parsed_pairs, and_pairs}
use Rattle.qs_spec.proofs.ParsedIsRelated.{FindsPairs, Found, Parses, pairs_parsed, pair_parsed}
use Rattle.qs_spec.proofs.RelatedIsParsed.{pair_begun, pairs_found, found_pairs, are_pairs}

same_option : (a b : Option (List Pair)) → ((ps : List Pair) → a ≡ Some ps → b ≡ Some ps) → ((ps : List Pair) → b ≡ Some ps → a ≡ Some ps) → a ≡ b
same_option None None f g = refl
same_option None (Some qs) f g = g qs refl
same_option (Some ps) b f g = sym (f ps refl)

-- more turns than tokens read the same
pub turns : (depth n : ℕ) (ts : List Token) → length ts ≤ n → parsed_pairs_within depth n ts ≡ parsed_pairs depth ts
turns depth n ts l =
    same_option (parsed_pairs_within depth n ts) (parsed_pairs depth ts)
    (λ ps e. found_pairs (let P : Option (List Pair) → Type 0 = FindsPairs depth ts in subst P e (pairs_parsed depth n ts)))
    (λ ps e. pairs_found (are_pairs depth ts ps e) n l)

pub after_ampersand : (depth : ℕ) (t : Token) (ts : List Token) → t.kind ≡ Amp → parsed_pairs depth (t ∷ ts) ≡ parsed_pairs depth ts
after_ampersand depth t ts e = ap (λ b. parsed_pairs_at b (parsed_pairs_within depth (length ts) ts) (parsed_pair depth (t ∷ ts)) (parsed_pairs_within depth (length ts))) (ap is_amp e)

-- a pair takes a token at least
shorter : (depth : ℕ) (t : Token) (ts : List Token) (p : Pair) (rest : List Token) → Parses (IsPair depth) (t ∷ ts) p rest → length rest ≤ length ts
shorter depth t ts p rest r =
    let b = pair_begun r.is in
    omega (arith, ap length r.whole, ap length b.2, length-append r.front rest)

pub after_pair : (depth : ℕ) (t : Token) (ts : List Token) → is_amp t.kind ≡ false → parsed_pairs depth (t ∷ ts) ≡ and_pairs depth (parsed_pair depth (t ∷ ts))
after_pair depth t ts e =
    ap (λ b. parsed_pairs_at b (parsed_pairs_within depth (length ts) ts) (parsed_pair depth (t ∷ ts)) (parsed_pairs_within depth (length ts))) e
    ∙ by (parsed_pair depth (t ∷ ts)) (pair_parsed depth (t ∷ ts))
  where
    by : (r : Rest Pair) → Found (IsPair depth) (t ∷ ts) r → parsed_pairs_at false (parsed_pairs_within depth (length ts) ts) r (parsed_pairs_within depth (length ts)) ≡ and_pairs depth r
    by None f = refl
    by (Some r) f = ap (option_map (λ ps. r.0 ∷ ps)) (turns depth (length ts) r.1 (shorter depth t ts r.0 r.1 f))
