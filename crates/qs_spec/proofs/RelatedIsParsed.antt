-- What the grammar relates, the function parses; so tokens are at most one list of pairs.
use Rattle.std.proofs.Common.{◌≡◌, ℕ, zero, suc, ◌≤◌, Bool, true, false, not, ◌||◌, List, [], ◌∷◌, ◌++◌, length, refl, sym, ap, ◌∙◌, subst, arith, Option, Some, None, option_map, append_assoc, length-append, le_refl}
use Rattle.std.specs.List.{list_all}
use Rattle.std.proofs.lemmas.Option.{none-some, same_Some}
use Rattle.qs_spec.specs.Token.{TokenKind, Token, raw_of}
use Rattle.qs_spec.specs.Segment.{ParsedSegment}
use Rattle.qs_spec.specs.Leaf.{Leaf}
use Rattle.qs_spec.specs.Token.TokenKind.{Amp, Equals, Open, Close, Other}
use Rattle.qs_spec.specs.Leaf.Leaf.{NoValue}
use Rattle.qs_spec.specs.Grammar.{Pair, assigned, pushed, is_amp, is_open, is_close, ends_last, ends_root, IsRun, root, longer, IsValue, IsBrackets, IsPair, IsEnd, ArePairs}
use Rattle.qs_spec.specs.internal.Parsing.{valued, value_at, parsed_value, with_leaf, Brackets, after_close_at, after_close, after_run, last_key, in_last, in_segment, parsed_brackets, after_root_at, after_root, parsed_pair, parsed_pairs_at, parsed_pairs_within, parsed_pairs}
use Rattle.qs_spec.proofs.ParsedIsRelated.{Stops, cut_run, FindsPairs, pairs_parsed}
use Rattle.qs_spec.proofs.Booleans.{and_both, not_of}

-- completeness: each derivation is what the function reads
stops_at : (ends : TokenKind → Bool) → ends Amp ≡ true → (rest : List Token) → IsEnd rest → Stops ends rest
stops_at ends a [] h = tt
stops_at ends a (t ∷ rest) h = ap ends h ∙ a

value_found : (front : List Token) (leaf : Leaf) (rest : List Token) → IsValue front leaf → IsEnd rest → parsed_value (front ++ rest) ≡ Some (leaf, rest)
value_found _ _ [] IsValue.none h = refl
value_found _ _ (t ∷ rest) IsValue.none h = ap (λ k. value_at k t rest) h
value_found _ _ rest (IsValue.some {t} {v} e r) h = ap (λ k. value_at k t (v ++ rest)) e ∙ ap valued (cut_run is_amp v rest r (stops_at is_amp refl rest h))

close_at : (k : TokenKind) → k ≡ Close → is_close k ≡ true
close_at k e = ap is_close e

push_found : (room : ℕ) (path : List ParsedSegment) (bracket : List ℕ) (t : Token) (ts : List Token) → t.kind ≡ Close → parsed_brackets room path bracket (t ∷ ts) ≡ with_leaf (pushed path) (parsed_value ts)
push_found zero path bracket t ts e = ap (λ b. in_last b path bracket t ts) (close_at t.kind e)
push_found (suc room) path bracket t ts e = ap (λ b. in_segment b (parsed_brackets room) path t ts) (close_at t.kind e)

-- a value after a segment doesn't begin with a bracket
after_value : (brackets : Brackets) (q : List ParsedSegment) (value rest : List Token) (leaf : Leaf) → IsValue value leaf → IsEnd rest → after_close brackets q (value ++ rest) ≡ Some (assigned q leaf, rest)
after_value brackets q _ [] _ IsValue.none h = refl
after_value brackets q _ (t ∷ rest) _ IsValue.none h = ap (λ k. after_close_at k brackets q t rest) h
after_value brackets q _ rest _ (IsValue.some {t} {v} e r) h = ap (λ k. after_close_at k brackets q t (v ++ rest)) e ∙ ap (λ c. with_leaf (assigned q) (valued c)) (cut_run is_amp v rest r (stops_at is_amp refl rest h))

segment_found : (room : ℕ) (path : List ParsedSegment) (bracket : List ℕ) (s t : Token) (run more : List Token) → IsRun is_close (s ∷ run) → t.kind ≡ Close
    → parsed_brackets (suc room) path bracket (s ∷ (run ++ t ∷ more)) ≡ after_close (parsed_brackets room) (longer path (raw_of (s ∷ run))) more
segment_found room path bracket s t run more r e =
    let parts = and_both (not (is_close s.kind)) (list_all (λ t. not (is_close t.kind)) run) r in
    ap (λ b. in_segment b (parsed_brackets room) path s (run ++ t ∷ more)) (not_of (is_close s.kind) parts.0)
    ∙ ap (λ (c : List Token × List Token). after_run (parsed_brackets room) (longer path (raw_of (s ∷ c.0))) c.1) (cut_run is_close run (t ∷ more) parts.1 (close_at t.kind e))

brackets_found : {room : ℕ} {path : List ParsedSegment} {bracket : List ℕ} {ts : List Token} {p : Pair} (rest : List Token) → IsBrackets room path bracket ts p → IsEnd rest → parsed_brackets room path bracket (ts ++ rest) ≡ Some (p, rest)
brackets_found rest (IsBrackets.push {room} {path} {bracket} {t} {value} {leaf} e v) h = push_found room path bracket t (value ++ rest) e ∙ ap (with_leaf (pushed path)) (value_found value leaf rest v h)
brackets_found rest (IsBrackets.segment {room} {path} {bracket} {leaf} s t run value r e v) h =
    ap (parsed_brackets (suc room) path bracket) (append_assoc (s ∷ run) (t ∷ value) rest)
    ∙ segment_found room path bracket s t run (value ++ rest) r e
    ∙ after_value (parsed_brackets room) (longer path (raw_of (s ∷ run))) value rest leaf v h
brackets_found rest (IsBrackets.more {room} {path} {bracket} {pair} s t u run more r e d b) h =
    ap (parsed_brackets (suc room) path bracket) (append_assoc (s ∷ run) (t ∷ u ∷ more) rest)
    ∙ segment_found room path bracket s t run (u ∷ (more ++ rest)) r e
    ∙ ap (λ k. after_close_at k (parsed_brackets room) (longer path (raw_of (s ∷ run))) u (more ++ rest)) d
    ∙ brackets_found rest b h
brackets_found rest (IsBrackets.last {path} {bracket} {leaf} t run value e r v) h =
    ap (λ l. parsed_brackets 0 path bracket (t ∷ l)) (append_assoc run value rest)
    ∙ ap (λ b. in_last b path bracket t (run ++ (value ++ rest))) e
    ∙ ap (last_key path bracket t) (cut_run ends_last run (value ++ rest) r (value_stops value leaf v))
    ∙ ap (with_leaf (assigned (longer path (bracket ++ t.raw ++ raw_of run)))) (value_found value leaf rest v h)
  where
    value_stops : (value : List Token) (leaf : Leaf) → IsValue value leaf → Stops ends_last (value ++ rest)
    value_stops _ _ IsValue.none = stops_at ends_last refl rest h
    value_stops _ _ (IsValue.some {t} e r) = ap ends_last e

root_ends : (depth : ℕ) (k : TokenKind) → ends_last k ≡ true → ends_root depth k ≡ true
root_ends zero k e = e
root_ends (suc depth) k e = ap (λ b. b || is_open k) e

root_found : (depth : ℕ) (key rest : List Token) → IsRun (ends_root depth) key → Stops (ends_root depth) rest → parsed_pair depth (key ++ rest) ≡ after_root depth key rest
root_found depth key rest r s = ap (λ (c : List Token × List Token). after_root depth c.0 c.1) (cut_run (ends_root depth) key rest r s)

pair_found : {depth : ℕ} {ts : List Token} {p : Pair} (rest : List Token) → IsPair depth ts p → IsEnd rest → parsed_pair depth (ts ++ rest) ≡ Some (p, rest)
pair_found {depth} rest (IsPair.name {t} {key} r) h = root_found depth (t ∷ key) rest r (stops_at (ends_root depth) (root_ends depth Amp refl) rest h) ∙ ends rest h
  where
    ends : (rest : List Token) → IsEnd rest → after_root depth (t ∷ key) rest ≡ Some (assigned (root (t ∷ key)) NoValue, rest)
    ends [] h = refl
    ends (u ∷ rest) h = ap (λ k. after_root_at k depth (t ∷ key) u rest) h
pair_found {depth} rest (IsPair.value {leaf} t key value r (IsValue.some e q)) h =
    ap (parsed_pair depth) (append_assoc key (t ∷ value) rest)
    ∙ root_found depth key (t ∷ (value ++ rest)) r (ap (ends_root depth) e ∙ root_ends depth Equals refl)
    ∙ ap (λ k. after_root_at k depth key t (value ++ rest)) e
    ∙ ap (λ c. with_leaf (assigned (root key)) (valued c)) (cut_run is_amp value rest q (stops_at is_amp refl rest h))
pair_found {depth} rest (IsPair.brackets {pair} t key more r o d b) h =
    ap (parsed_pair depth) (append_assoc key (t ∷ more) rest)
    ∙ root_found depth key (t ∷ (more ++ rest)) r (ap (ends_root depth) (open_of t.kind o) ∙ d)
    ∙ ap (λ k. after_root_at k depth key t (more ++ rest)) (open_of t.kind o)
    ∙ brackets_found rest b h
  where
    open_of : (k : TokenKind) → is_open k ≡ true → k ≡ Open
    open_of Amp e = cc
    open_of Equals e = cc
    open_of Open e = refl
    open_of Close e = cc
    open_of Other e = cc

-- a pair is some tokens, of which the first is no `&`
abbrev pub IsBegun : List Token → Type 0
IsBegun ts = (t : Token) × (more : List Token) × (ts ≡ t ∷ more) × (is_amp t.kind ≡ false)

no_amp : (depth : ℕ) (k : TokenKind) → ends_root depth k ≡ false → is_amp k ≡ false
no_amp zero Amp e = cc
no_amp (suc depth) Amp e = cc
no_amp depth Equals e = refl
no_amp depth Open e = refl
no_amp depth Close e = refl
no_amp depth Other e = refl

run_begun : (depth : ℕ) (key : List Token) (t : Token) (more : List Token) → IsRun (ends_root depth) key → is_amp t.kind ≡ false → IsBegun (key ++ t ∷ more)
run_begun depth [] t more r e = (t, more, refl, e)
run_begun depth (u ∷ key) t more r e = (u, key ++ t ∷ more, refl, no_amp depth u.kind (not_of (ends_root depth u.kind) (and_both _ _ r).0))

pub pair_begun : {depth : ℕ} {ts : List Token} {p : Pair} → IsPair depth ts p → IsBegun ts
pair_begun {depth} (IsPair.name {t} {key} r) = (t, key, refl, no_amp depth t.kind (not_of (ends_root depth t.kind) (and_both _ _ r).0))
pair_begun {depth} (IsPair.value t key value r (IsValue.some e q)) = run_begun depth key t value r (ap is_amp e)
pair_begun {depth} (IsPair.brackets t key more r o d b) = run_begun depth key t more r (open_amp t.kind o)
  where
    open_amp : (k : TokenKind) → is_open k ≡ true → is_amp k ≡ false
    open_amp Amp e = cc
    open_amp Equals e = cc
    open_amp Open e = refl
    open_amp Close e = cc
    open_amp Other e = cc

step_found : (depth n : ℕ) (front rest : List Token) (pair : Pair) (ps : List Pair) → parsed_pair depth (front ++ rest) ≡ Some (pair, rest) → IsBegun front
    → ((n : ℕ) → length rest ≤ n → parsed_pairs_within depth n rest ≡ Some ps) → length (front ++ rest) ≤ n → parsed_pairs_within depth n (front ++ rest) ≡ Some (pair ∷ ps)
step_found depth zero front rest pair ps r b more l =
    let w : front ++ rest ≡ b.0 ∷ (b.1 ++ rest) = ap (λ l. l ++ rest) b.2 in
    absurd (omega (arith, ap length w))
step_found depth (suc n) front rest pair ps r b more l =
    let w : front ++ rest ≡ b.0 ∷ (b.1 ++ rest) = ap (λ l. l ++ rest) b.2 in
    ap (parsed_pairs_within depth (suc n)) w
    ∙ ap (λ x. parsed_pairs_at x (parsed_pairs_within depth n (b.1 ++ rest)) (parsed_pair depth (b.0 ∷ (b.1 ++ rest))) (parsed_pairs_within depth n)) b.3
    ∙ ap (λ x. parsed_pairs_at false (parsed_pairs_within depth n (b.1 ++ rest)) x (parsed_pairs_within depth n)) (ap (parsed_pair depth) (sym w) ∙ r)
    ∙ ap (option_map (λ ps. pair ∷ ps)) (more n (omega (arith, ap length w, length-append b.1 rest)))

pub pairs_found : {depth : ℕ} {ts : List Token} {ps : List Pair} → ArePairs depth ts ps → (n : ℕ) → length ts ≤ n → parsed_pairs_within depth n ts ≡ Some ps
pairs_found ArePairs.none zero l = refl
pairs_found ArePairs.none (suc n) l = refl
pairs_found (ArePairs.amp {t} {rest} e h) zero l = absurd (omega arith)
pairs_found {depth} (ArePairs.amp {t} {rest} e h) (suc n) l = ap (λ b. parsed_pairs_at b (parsed_pairs_within depth n rest) (parsed_pair depth (t ∷ rest)) (parsed_pairs_within depth n)) (ap is_amp e) ∙ pairs_found h n (omega arith)
pairs_found {depth} (ArePairs.pair {pair} {pairs} front rest p e h) n l = step_found depth n front rest pair pairs (pair_found rest p e) (pair_begun p) (pairs_found h) l

pub found_pairs : {depth : ℕ} {ts : List Token} {ps : List Pair} → ArePairs depth ts ps → parsed_pairs depth ts ≡ Some ps
found_pairs {depth} {ts} h = pairs_found h (length ts) (le_refl (length ts))

-- what the function reads, the grammar relates
pub are_pairs : (depth : ℕ) (ts : List Token) (ps : List Pair) → parsed_pairs depth ts ≡ Some ps → ArePairs depth ts ps
are_pairs depth ts ps e = let P : Option (List Pair) → Type 0 = FindsPairs depth ts in subst P e (pairs_parsed depth (length ts) ts)

-- tokens are at most one list of pairs
pub one_list : (depth : ℕ) (ts : List Token) (ps qs : List Pair) → ArePairs depth ts ps → ArePairs depth ts qs → ps ≡ qs
one_list depth ts ps qs p q = same_Some ps qs (sym (found_pairs p) ∙ found_pairs q)

-- where the function finds none, there are none
pub no_pairs : (depth : ℕ) (ts : List Token) (ps : List Pair) → parsed_pairs depth ts ≡ None → ArePairs depth ts ps → ⊥
no_pairs depth ts ps e h = none-some ps (sym e ∙ found_pairs h)
