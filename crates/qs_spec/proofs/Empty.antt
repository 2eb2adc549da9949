-- No path of an input holds the empty text.
use Rattle.std.proofs.Common.{◌≡◌, ℕ, Bool, true, false, cond, ◌==◌, List, [], ◌∷◌, refl}
use Rattle.std.specs.Char.{is_digit}
use Rattle.qs_spec.specs.Escape.{decoded}
use Rattle.qs_spec.specs.Segment.{segment_of, is_index, number}
use Rattle.qs_spec.specs.Token.{tokens}
use Rattle.qs_spec.specs.Segment.Segment.{Int, Str}
use Rattle.qs_spec.specs.Grammar.{Pair, ArePairs}
use Rattle.qs_spec.specs.Segment.{is_same_segment}
use Rattle.qs_spec.proofs.OneMore.{NoneEmpty}
use Rattle.qs_spec.proofs.Segments.{HasBytes, all_segments}

either : (b : Bool) (xs ys : List ℕ) → HasBytes xs → HasBytes ys → HasBytes (cond b xs ys)
either true xs ys h i = h
either false xs ys h i = i

decoded_some : (b : ℕ) (raw : List ℕ) → HasBytes (decoded (b ∷ raw))
decoded_some b [] = tt
decoded_some b (c ∷ []) = either (b == 37) _ _ tt tt
decoded_some b (c ∷ e ∷ rest) = either (b == 37) _ _ (either (is_digit c 16) _ _ (either (is_digit e 16) _ _ tt tt) tt) tt

not_empty : (bytes : List ℕ) → HasBytes bytes → is_same_segment (Str []) (Str bytes) ≡ false
not_empty [] h = absurd h
not_empty (b ∷ bytes) h = refl

segment_some : (raw : List ℕ) → HasBytes raw → is_same_segment (Str []) (segment_of raw) ≡ false
segment_some [] h = absurd h
segment_some (b ∷ raw) h = by (is_index (b ∷ raw))
  where
    by : (x : Bool) → is_same_segment (Str []) (cond x (Int (number (b ∷ raw))) (Str (decoded (b ∷ raw)))) ≡ false
    by true = refl
    by false = not_empty (decoded (b ∷ raw)) (decoded_some b raw)

pub none_empty : (is_form : Bool) (depth : ℕ) (bytes : List ℕ) (ps : List Pair) → ArePairs depth (tokens is_form bytes) ps → NoneEmpty ps
none_empty is_form depth bytes ps h = all_segments (λ k. is_same_segment (Str []) k ≡ false) segment_some is_form depth bytes ps h
