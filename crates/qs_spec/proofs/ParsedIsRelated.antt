-- What the function parses, the grammar relates.
use Rattle.std.proofs.Common.{◌≡◌, ℕ, zero, suc, Bool, true, false, not, ◌&&◌, List, [], ◌∷◌, ◌++◌, refl, sym, ap, ap₂, ◌∙◌, subst, Option, Some, None, option_map, append_assoc}
use Rattle.std.specs.List.{list_all}
use Rattle.qs_spec.specs.Token.{TokenKind, Token, raw_of}
use Rattle.qs_spec.specs.Segment.{ParsedSegment}
use Rattle.qs_spec.specs.Leaf.{Leaf}
use Rattle.qs_spec.specs.Token.TokenKind.{Amp, Equals, Open, Close, Other}
use Rattle.qs_spec.specs.Grammar.{Pair, assigned, pushed, is_amp, is_open, is_close, ends_last, ends_root, IsRun, root, longer, IsValue, IsBrackets, IsPair, IsEnd, ArePairs}
use Rattle.qs_spec.specs.internal.Parsing.{Rest, cut_at, cut, value_at, parsed_value, with_leaf, after_close_at, after_close, after_run, last_key, in_last, in_segment, parsed_brackets, named, after_root_at, after_root, parsed_pair, parsed_pairs_at, parsed_pairs_within}
use Rattle.qs_spec.proofs.Booleans.{and_both, not_of}

-- what ends a run stands first, or nothing does
abbrev pub Stops : (TokenKind → Bool) → List Token → Type 0
Stops ends [] = Unit {0}
Stops ends (t ∷ ts) = ends t.kind ≡ true

-- a cut is a run, and then what ends it
pub record IsCut (ends : TokenKind → Bool) (ts : List Token) (c : List Token × List Token) : Type 0 where
  run : IsRun ends c.0
  stops : Stops ends c.1
  whole : ts ≡ c.0 ++ c.1

is_cut : (ends : TokenKind → Bool) (ts : List Token) → IsCut ends ts (cut ends ts)
is_cut ends [] = record { run = refl; stops = tt; whole = refl }
is_cut ends (t ∷ ts) = by (is_cut ends ts) (ends t.kind) refl
  where
    by : IsCut ends ts (cut ends ts) → (b : Bool) → ends t.kind ≡ b → IsCut ends (t ∷ ts) (cut_at b t ts (cut ends ts))
    by h true e = record { run = refl; stops = e; whole = refl }
    by h false e = record { run = ap (λ b. not b && list_all (λ t. not (ends t.kind)) (cut ends ts).0) e ∙ h.run; stops = h.stops; whole = ap (λ l. t ∷ l) h.whole }

-- a run before what ends it is cut there
pub cut_run : (ends : TokenKind → Bool) (run rest : List Token) → IsRun ends run → Stops ends rest → cut ends (run ++ rest) ≡ (run, rest)
cut_run ends [] [] r s = refl
cut_run ends [] (t ∷ rest) r s = ap (λ b. cut_at b t rest (cut ends rest)) s
cut_run ends (t ∷ run) rest r s =
    let parts = and_both (not (ends t.kind)) _ r in
    ap₂ (λ b c. cut_at b t (run ++ rest) c) (not_of (ends t.kind) parts.0) (cut_run ends run rest parts.1 s)

-- what was read is a front with this property, and then an end
pub record Parses {A : Type 0} (Is : List Token → A → Type 0) (ts : List Token) (a : A) (rest : List Token) : Type 0 where
  pub front : List Token
  pub is : Is front a
  pub end : IsEnd rest
  pub whole : ts ≡ front ++ rest

amp_of : (k : TokenKind) → is_amp k ≡ true → k ≡ Amp
amp_of Amp e = refl
amp_of Equals e = cc
amp_of Open e = cc
amp_of Close e = cc
amp_of Other e = cc

end_of : (ts : List Token) → Stops is_amp ts → IsEnd ts
end_of [] s = tt
end_of (t ∷ ts) s = amp_of t.kind s

-- what a reader found, if anything, is so
abbrev pub Found : {A : Type 0} → (List Token → A → Type 0) → List Token → Rest A → Type 0
Found Is ts None = Unit {0}
Found Is ts (Some r) = Parses Is ts r.0 r.1

close_of : (k : TokenKind) → is_close k ≡ true → k ≡ Close
close_of Amp e = cc
close_of Equals e = cc
close_of Open e = cc
close_of Close e = refl
close_of Other e = cc

value_parsed : (ts : List Token) → Found IsValue ts (parsed_value ts)
value_parsed [] = record { front = []; is = IsValue.none; end = tt; whole = refl }
value_parsed (t ∷ ts) = by t.kind refl
  where
    by : (k : TokenKind) → t.kind ≡ k → Found IsValue (t ∷ ts) (value_at k t ts)
    by Amp e = record { front = []; is = IsValue.none; end = e; whole = refl }
    by Equals e =
        let c = is_cut is_amp ts in
        record { front = t ∷ (cut is_amp ts).0; is = IsValue.some e c.run; end = end_of _ c.stops; whole = ap (λ l. t ∷ l) c.whole }
    by Open e = tt
    by Close e = tt
    by Other e = tt

-- after some tokens a reader reads what it reads
module _ {A B : Type 0} (Is : List Token → A → Type 0) (Are : List Token → B → Type 0) (pre : List Token → List Token) (law : (f r : List Token) → pre (f ++ r) ≡ pre f ++ r) where
  pub following : (of : A → B) → ((front : List Token) (a : A) → Is front a → Are (pre front) (of a)) → (ts : List Token) (a : A) (rest : List Token) → Parses Is ts a rest → Parses Are (pre ts) (of a) rest
  following of f ts a rest h = record { front = pre h.front; is = f h.front a h.is; end = h.end; whole = ap pre h.whole ∙ law h.front rest }

leaf_following : (Is : List Token → Pair → Type 0) (pre : List Token → List Token) → ((f r : List Token) → pre (f ++ r) ≡ pre f ++ r) → (pair : Leaf → Pair)
    → ((front : List Token) (leaf : Leaf) → IsValue front leaf → Is (pre front) (pair leaf)) → (ts : List Token) (r : Rest Leaf) → Found IsValue ts r → Found Is (pre ts) (with_leaf pair r)
leaf_following Is pre law pair f ts None h = tt
leaf_following Is pre law pair f ts (Some r) h = following IsValue Is pre law pair f ts r.0 r.1 h

pair_following : (Is Are : List Token → Pair → Type 0) (pre : List Token → List Token) → ((f r : List Token) → pre (f ++ r) ≡ pre f ++ r)
    → ((front : List Token) (p : Pair) → Is front p → Are (pre front) p) → (ts : List Token) (r : Rest Pair) → Found Is ts r → Found Are (pre ts) r
pair_following Is Are pre law f ts None h = tt
pair_following Is Are pre law f ts (Some r) h = following Is Are pre law (λ p. p) f ts r.0 r.1 h

after : (run : List Token) (f r : List Token) → run ++ (f ++ r) ≡ (run ++ f) ++ r
after run f r = sym (append_assoc run f r)

-- a run with one more token before it
run_more : (ends : TokenKind → Bool) (t : Token) (run : List Token) → ends t.kind ≡ false → IsRun ends run → IsRun ends (t ∷ run)
run_more ends t run e h = ap (λ b. not b && list_all (λ t. not (ends t.kind)) run) e ∙ h

abbrev AllFound : ℕ → Type 0
AllFound room = (path : List ParsedSegment) (bracket : List ℕ) (ts : List Token) → Found (IsBrackets room path bracket) ts (parsed_brackets room path bracket ts)

closed : (room : ℕ) (path : List ParsedSegment) (bracket : List ℕ) (s t : Token) (run rest : List Token) → IsRun is_close (s ∷ run) → t.kind ≡ Close → AllFound room
    → Found (IsBrackets (suc room) path bracket) (s ∷ run ++ t ∷ rest) (after_close (parsed_brackets room) (longer path (raw_of (s ∷ run))) rest)
closed room path bracket s t run [] r e h = leaf_following (IsBrackets (suc room) path bracket) (λ l. s ∷ run ++ t ∷ l) (λ f g. after (s ∷ run) (t ∷ f) g) (assigned (longer path (raw_of (s ∷ run)))) (λ value leaf v. IsBrackets.segment s t run value r e v) [] (parsed_value []) (value_parsed [])
closed room path bracket s t run (u ∷ rest) r e h = by u.kind refl
  where
    by : (k : TokenKind) → u.kind ≡ k → Found (IsBrackets (suc room) path bracket) (s ∷ run ++ t ∷ u ∷ rest) (after_close_at k (parsed_brackets room) (longer path (raw_of (s ∷ run))) u rest)
    by Amp d = record { front = s ∷ run ++ t ∷ []; is = IsBrackets.segment s t run [] r e IsValue.none; end = d; whole = after (s ∷ run) (t ∷ []) (u ∷ rest) }
    by Equals d =
        let c = is_cut is_amp rest in
        record { front = s ∷ run ++ t ∷ u ∷ (cut is_amp rest).0; is = IsBrackets.segment s t run (u ∷ (cut is_amp rest).0) r e (IsValue.some d c.run); end = end_of _ c.stops; whole = ap (λ l. s ∷ run ++ t ∷ u ∷ l) c.whole ∙ after (s ∷ run) (t ∷ u ∷ (cut is_amp rest).0) (cut is_amp rest).1 }
    by Open d = pair_following (IsBrackets room (longer path (raw_of (s ∷ run))) u.raw) (IsBrackets (suc room) path bracket) (λ l. s ∷ run ++ t ∷ u ∷ l) (λ f g. after (s ∷ run) (t ∷ u ∷ f) g) (λ front p b. IsBrackets.more s t u run front r e d b) rest (parsed_brackets room (longer path (raw_of (s ∷ run))) u.raw rest) (h (longer path (raw_of (s ∷ run))) u.raw rest)
    by Close d = tt
    by Other d = tt

pushes : (room : ℕ) (path : List ParsedSegment) (bracket : List ℕ) (t : Token) (ts : List Token) → is_close t.kind ≡ true → Found (IsBrackets room path bracket) (t ∷ ts) (with_leaf (pushed path) (parsed_value ts))
pushes room path bracket t ts e = leaf_following (IsBrackets room path bracket) (λ l. t ∷ l) (λ f g. refl) (pushed path) (λ value leaf v. IsBrackets.push (close_of t.kind e) v) ts (parsed_value ts) (value_parsed ts)

brackets_parsed : (room : ℕ) → AllFound room
brackets_parsed zero path bracket [] = tt
brackets_parsed zero path bracket (t ∷ ts) = by (is_close t.kind) refl
  where
    by : (b : Bool) → is_close t.kind ≡ b → Found (IsBrackets zero path bracket) (t ∷ ts) (in_last b path bracket t ts)
    by true e = pushes zero path bracket t ts e
    by false e =
        let c = is_cut ends_last ts in
        subst (λ l. Found (IsBrackets zero path bracket) (t ∷ l) (last_key path bracket t (cut ends_last ts))) (sym c.whole)
        (leaf_following (IsBrackets zero path bracket) (λ l. t ∷ (cut ends_last ts).0 ++ l) (after (t ∷ (cut ends_last ts).0)) (assigned (longer path (bracket ++ t.raw ++ raw_of (cut ends_last ts).0))) (λ value leaf v. IsBrackets.last t (cut ends_last ts).0 value e c.run v) (cut ends_last ts).1 (parsed_value (cut ends_last ts).1) (value_parsed (cut ends_last ts).1))
brackets_parsed (suc room) path bracket [] = tt
brackets_parsed (suc room) path bracket (t ∷ ts) = by (brackets_parsed room) (is_close t.kind) refl
  where
    following_run : AllFound room → (run rest : List Token) → IsRun is_close (t ∷ run) → Stops is_close rest → Found (IsBrackets (suc room) path bracket) (t ∷ run ++ rest) (after_run (parsed_brackets room) (longer path (raw_of (t ∷ run))) rest)
    following_run h run [] r s = tt
    following_run h run (u ∷ rest) r s = closed room path bracket t u run rest r (close_of u.kind s) h

    by : AllFound room → (b : Bool) → is_close t.kind ≡ b → Found (IsBrackets (suc room) path bracket) (t ∷ ts) (in_segment b (parsed_brackets room) path t ts)
    by h true e = pushes (suc room) path bracket t ts e
    by h false e =
        let c = is_cut is_close ts in
        subst (λ l. Found (IsBrackets (suc room) path bracket) (t ∷ l) (in_segment false (parsed_brackets room) path t ts)) (sym c.whole)
        (following_run h (cut is_close ts).0 (cut is_close ts).1 (run_more is_close t (cut is_close ts).0 e c.run) c.stops)

pair_at : (depth : ℕ) (key rest : List Token) → IsRun (ends_root depth) key → Stops (ends_root depth) rest → Found (IsPair depth) (key ++ rest) (after_root depth key rest)
pair_at depth [] [] r s = tt
pair_at depth (t ∷ key) [] r s = record { front = t ∷ key; is = IsPair.name r; end = tt; whole = refl }
pair_at depth key (u ∷ rest) r s = by u.kind refl
  where
    named_is : (key : List Token) → IsRun (ends_root depth) key → u.kind ≡ Amp → Found (IsPair depth) (key ++ u ∷ rest) (named key (u ∷ rest))
    named_is [] r e = tt
    named_is (t ∷ key) r e = record { front = t ∷ key; is = IsPair.name r; end = e; whole = refl }

    by : (k : TokenKind) → u.kind ≡ k → Found (IsPair depth) (key ++ u ∷ rest) (after_root_at k depth key u rest)
    by Amp e = named_is key r e
    by Equals e =
        let c = is_cut is_amp rest in
        record { front = key ++ u ∷ (cut is_amp rest).0; is = IsPair.value u key (cut is_amp rest).0 r (IsValue.some e c.run); end = end_of _ c.stops; whole = ap (λ l. key ++ u ∷ l) c.whole ∙ after key (u ∷ (cut is_amp rest).0) (cut is_amp rest).1 }
    by Open e = pair_following (IsBrackets depth (root key) u.raw) (IsPair depth) (λ l. key ++ u ∷ l) (λ f g. after key (u ∷ f) g) (λ front p b. IsPair.brackets u key front r (ap is_open e) (sym (ap (ends_root depth) e) ∙ s) b) rest (parsed_brackets depth (root key) u.raw rest) (brackets_parsed depth (root key) u.raw rest)
    by Close e = tt
    by Other e = tt

pub pair_parsed : (depth : ℕ) (ts : List Token) → Found (IsPair depth) ts (parsed_pair depth ts)
pair_parsed depth ts =
    let c = is_cut (ends_root depth) ts in
    subst (λ l. Found (IsPair depth) l (parsed_pair depth ts)) (sym c.whole) (pair_at depth (cut (ends_root depth) ts).0 (cut (ends_root depth) ts).1 c.run c.stops)

abbrev pub FindsPairs : ℕ → List Token → Option (List Pair) → Type 0
FindsPairs depth ts None = Unit {0}
FindsPairs depth ts (Some ps) = ArePairs depth ts ps

pub pairs_parsed : (depth n : ℕ) (ts : List Token) → FindsPairs depth ts (parsed_pairs_within depth n ts)
pairs_parsed depth zero [] = ArePairs.none
pairs_parsed depth zero (t ∷ ts) = tt
pairs_parsed depth (suc n) [] = ArePairs.none
pairs_parsed depth (suc n) (t ∷ ts) = by (pairs_parsed depth n) (is_amp t.kind) refl (parsed_pair depth (t ∷ ts)) (pair_parsed depth (t ∷ ts))
  where
    skip : t.kind ≡ Amp → (o : Option (List Pair)) → FindsPairs depth ts o → FindsPairs depth (t ∷ ts) o
    skip e None h = tt
    skip e (Some ps) h = ArePairs.amp e h

    more : (p : Pair) (rest : List Token) → Parses (IsPair depth) (t ∷ ts) p rest → (o : Option (List Pair)) → FindsPairs depth rest o → FindsPairs depth (t ∷ ts) (option_map (λ ps. p ∷ ps) o)
    more p rest r None h = tt
    more p rest r (Some ps) h = subst (λ l. ArePairs depth l (p ∷ ps)) (sym r.whole) (ArePairs.pair r.front rest r.is r.end h)

    by : ((ts : List Token) → FindsPairs depth ts (parsed_pairs_within depth n ts)) → (b : Bool) → is_amp t.kind ≡ b → (r : Rest Pair) → Found (IsPair depth) (t ∷ ts) r → FindsPairs depth (t ∷ ts) (parsed_pairs_at b (parsed_pairs_within depth n ts) r (parsed_pairs_within depth n))
    by h true e r f = skip (amp_of t.kind e) (parsed_pairs_within depth n ts) (h ts)
    by h false e None f = tt
    by h false e (Some r) f = more r.0 r.1 f (parsed_pairs_within depth n r.1) (h r.1)
