-- Without depth, an input is the pairs of the standard's pieces.
use Rattle.std.proofs.Common.{◌≡◌, ◌↔◌, ℕ, Bool, true, false, cond, not, ◌&&◌, ◌||◌, ◌==◌, List, [], ◌∷◌, ◌++◌, map, refl, sym, ap, ap₂, ◌∙◌, subst, append-nil}
use Rattle.std.specs.List.{list_all, filter}
use Rattle.qs_spec.specs.Token.{TokenKind, Token, tokens, byte_kind, byte_token, is_escaped_bracket, raw_of}
use Rattle.qs_spec.specs.Token.TokenKind.{Amp, Equals, Open, Close, Other}
use Rattle.qs_spec.specs.Segment.{ParsedSegment, parsed_segment_of}
use Rattle.qs_spec.specs.Leaf.{Leaf, value_leaf}
use Rattle.qs_spec.specs.Leaf.Leaf.{NoValue}
use Rattle.qs_spec.specs.Grammar.{Pair, assigned, is_amp, is_equals, ends_last, IsRun, root, IsValue, IsPair, IsEnd, ArePairs}
use Rattle.qs_spec.proofs.Booleans.{and_both, or_both, not_of}
use Rattle.qs_spec.proofs.RelatedIsParsed.{one_list}
use Rattle.qs_standards.specs.FormUrlencoded.{before_first, split, isnt_empty, name_bytes}
use Rattle.qs_standards.specs.Pieces.{piece_leaf, name_path, piece_pair, piece_pairs}
use Rattle.qs_standards.proofs.Decoding.{equal_of}

-- kinds of bytes
amp_by : (p q r s : Bool) → is_amp (cond p Amp (cond q Equals (cond r Open (cond s Close Other)))) ≡ p
amp_by true q r s = refl
amp_by false true r s = refl
amp_by false false true s = refl
amp_by false false false true = refl
amp_by false false false false = refl

ends_by : (p q r s : Bool) → ends_last (cond p Amp (cond q Equals (cond r Open (cond s Close Other)))) ≡ (p || q)
ends_by true q r s = refl
ends_by false true r s = refl
ends_by false false true s = refl
ends_by false false false true = refl
ends_by false false false false = refl

amp_kind : (b : ℕ) → is_amp (byte_kind b) ≡ (b == 38)
amp_kind b = amp_by (b == 38) (b == 61) (b == 91) (b == 93)

end_kind : (b : ℕ) → ends_last (byte_kind b) ≡ (b == 38 || b == 61)
end_kind b = ends_by (b == 38) (b == 61) (b == 91) (b == 93)

-- neither `&` nor `=`
abbrev pub is_separator : ℕ → Bool
is_separator b = b == 38 || b == 61

-- each token is one byte, or three bytes that aren't separators
pub data Spells : List Token → List ℕ → Type 0 where
  none : Spells [] []
  byte : {ts : List Token} {bytes : List ℕ} (b : ℕ) → Spells ts bytes → Spells (byte_token b ∷ ts) (b ∷ bytes)
  bracket : {ts : List Token} {bytes : List ℕ} (t : Token) (b c e : ℕ) → ends_last t.kind ≡ false → t.raw ≡ b ∷ c ∷ e ∷ []
      → is_separator b ≡ false → is_separator c ≡ false → is_separator e ≡ false → Spells ts bytes → Spells (t ∷ ts) (b ∷ c ∷ e ∷ bytes)

bracket_kind : (c : Bool) → ends_last (cond c Open Close) ≡ false
bracket_kind true = refl
bracket_kind false = refl

is_at : (b n : ℕ) → (b == n) ≡ true → is_separator n ≡ false → is_separator b ≡ false
is_at b n e h = ap is_separator (equal_of b n e) ∙ h

last_digit : (e : ℕ) → (e == 66 || e == 68) ≡ true → is_separator e ≡ false
last_digit e h = by (e == 66) refl h
  where
    by : (x : Bool) → (e == 66) ≡ x → (x || e == 68) ≡ true → is_separator e ≡ false
    by true d h = is_at e 66 d refl
    by false d h = is_at e 68 h refl

tokens_spell : (is_form : Bool) (bytes : List ℕ) → Spells (tokens is_form bytes) bytes
tokens_spell is_form [] = Spells.none
tokens_spell is_form (b ∷ []) = Spells.byte b Spells.none
tokens_spell is_form (b ∷ c ∷ []) = Spells.byte b (Spells.byte c Spells.none)
tokens_spell is_form (b ∷ c ∷ e ∷ rest) = by (is_form && is_escaped_bracket b c e) refl (tokens_spell is_form rest) (tokens_spell is_form (c ∷ e ∷ rest))
  where
    by : (x : Bool) → (is_form && is_escaped_bracket b c e) ≡ x → Spells (tokens is_form rest) rest → Spells (tokens is_form (c ∷ e ∷ rest)) (c ∷ e ∷ rest)
        → Spells (cond x (record { kind = cond (e == 66) Open Close; raw = b ∷ c ∷ e ∷ [] } ∷ tokens is_form rest) (byte_token b ∷ tokens is_form (c ∷ e ∷ rest))) (b ∷ c ∷ e ∷ rest)
    by false h s t = Spells.byte b t
    by true h s t =
        let g = and_both (b == 37 && c == 53) (e == 66 || e == 68) (and_both is_form (is_escaped_bracket b c e) h).1 in
        let f = and_both (b == 37) (c == 53) g.0 in
        Spells.bracket (record { kind = cond (e == 66) Open Close; raw = b ∷ c ∷ e ∷ [] }) b c e (bracket_kind (e == 66)) refl (is_at b 37 f.0 refl) (is_at c 53 f.1 refl) (last_digit e g.1) s

run_more : (ends : TokenKind → Bool) (t : Token) (run : List Token) → ends t.kind ≡ false → IsRun ends run → IsRun ends (t ∷ run)
run_more ends t run e h = ap (λ b. not b && list_all (λ t. not (ends t.kind)) run) e ∙ h

-- the raw bytes of tokens that spell
spelled : {ts : List Token} {bytes : List ℕ} → Spells ts bytes → raw_of ts ≡ bytes
spelled Spells.none = refl
spelled (Spells.byte b s) = ap (λ l. b ∷ l) (spelled s)
spelled (Spells.bracket t b c e k r p q u s) = ap₂ (λ (x y : List ℕ). x ++ y) r (spelled s)

-- the tokens of a piece: a key, and perhaps `=` and a value
record IsKeyed (ts : List Token) (bytes : List ℕ) : Type 0 where
  key : List Token
  value : List Token
  whole : ts ≡ key ++ value
  run : IsRun ends_last key
  is : IsValue value (piece_leaf bytes)
  raw : raw_of key ≡ name_bytes bytes
  roots : root key ≡ name_path (name_bytes bytes)

-- with one token more
keyed_more : (t : Token) (b : ℕ) (raw bytes : List ℕ) (ts : List Token) → ends_last t.kind ≡ false → t.raw ≡ b ∷ raw → name_bytes (b ∷ raw ++ bytes) ≡ b ∷ raw ++ name_bytes bytes → piece_leaf (b ∷ raw ++ bytes) ≡ piece_leaf bytes
    → IsKeyed ts bytes → IsKeyed (t ∷ ts) (b ∷ raw ++ bytes)
keyed_more t b raw bytes ts k r n l h =
    let w : raw_of (t ∷ h.key) ≡ b ∷ raw ++ name_bytes bytes = ap₂ (λ (x y : List ℕ). x ++ y) r h.raw in
    record {
      key = t ∷ h.key;
      value = h.value;
      whole = ap (λ l. t ∷ l) h.whole;
      run = run_more ends_last t h.key k h.run;
      is = subst (IsValue h.value) (sym l) h.is;
      raw = w ∙ sym n;
      roots = ap (λ l. parsed_segment_of l ∷ []) w ∙ sym (ap name_path n);
    }

name_step : (b : ℕ) (bytes : List ℕ) → is_separator b ≡ false → name_bytes (b ∷ bytes) ≡ b ∷ name_bytes bytes
name_step b bytes e = ap (λ x. cond x [] (b ∷ name_bytes bytes)) (or_both (b == 38) (b == 61) e).1

leaf_step : (b : ℕ) (bytes : List ℕ) → is_separator b ≡ false → piece_leaf (b ∷ bytes) ≡ piece_leaf bytes
leaf_step b bytes e = ap (λ x. cond x (value_leaf bytes) (piece_leaf bytes)) (or_both (b == 38) (b == 61) e).1

keyed : {ts : List Token} {bytes : List ℕ} → Spells ts bytes → IsRun is_amp ts → IsKeyed ts bytes
keyed Spells.none r = record { key = []; value = []; whole = refl; run = refl; is = IsValue.none; raw = refl; roots = refl }
keyed (Spells.byte {ts} {bytes} b s) r = by (b == 61) refl (keyed s p.1)
  where
    p : (not (is_amp (byte_kind b)) ≡ true) × (list_all (λ t. not (is_amp t.kind)) ts ≡ true)
    p = and_both (not (is_amp (byte_kind b))) (list_all (λ t. not (is_amp t.kind)) ts) r

    no_amp : (b == 38) ≡ false
    no_amp = sym (amp_kind b) ∙ not_of (is_amp (byte_kind b)) p.0

    equals : (b == 61) ≡ true → byte_kind b ≡ Equals
    equals e = ap (λ x. cond x Amp (cond (b == 61) Equals (cond (b == 91) Open (cond (b == 93) Close Other)))) no_amp ∙ ap (λ x. cond x Equals (cond (b == 91) Open (cond (b == 93) Close Other))) e

    by : (x : Bool) → (b == 61) ≡ x → IsKeyed ts bytes → IsKeyed (byte_token b ∷ ts) (b ∷ bytes)
    by true e h =
        let n : name_bytes (b ∷ bytes) ≡ [] = ap (λ x. cond x [] (b ∷ name_bytes bytes)) e in
        record {
          key = [];
          value = byte_token b ∷ ts;
          whole = refl;
          run = refl;
          is = subst (IsValue (byte_token b ∷ ts)) (ap value_leaf (spelled s) ∙ sym (ap (λ x. cond x (value_leaf bytes) (piece_leaf bytes)) e)) (IsValue.some (equals e) p.1);
          raw = sym n;
          roots = sym (ap name_path n);
        }
    by false e h =
        let q : is_separator b ≡ false = ap₂ (λ x y. x || y) no_amp e in
        keyed_more (byte_token b) b [] bytes ts (end_kind b ∙ q) refl (name_step b bytes q) (leaf_step b bytes q) h
keyed (Spells.bracket {ts} {bytes} t b c e k r p q u s) a =
    keyed_more t b (c ∷ e ∷ []) bytes ts k r
    (name_step b (c ∷ e ∷ bytes) p ∙ ap (λ l. b ∷ l) (name_step c (e ∷ bytes) q ∙ ap (λ l. c ∷ l) (name_step e bytes u)))
    (leaf_step b (c ∷ e ∷ bytes) p ∙ leaf_step c (e ∷ bytes) q ∙ leaf_step e bytes u)
    (keyed s (and_both (not (is_amp t.kind)) (list_all (λ t. not (is_amp t.kind)) ts) a).1)

-- they are a pair
pair_of : (t : Token) (ts : List Token) (bytes : List ℕ) → IsKeyed (t ∷ ts) bytes → IsPair 0 (t ∷ ts) (piece_pair bytes)
pair_of t ts bytes k =
    subst (λ (p : List ParsedSegment). IsPair 0 (t ∷ ts) (assigned p (piece_leaf bytes))) k.roots
    (subst (λ (l : List Token). IsPair 0 l (assigned (root k.key) (piece_leaf bytes))) (sym k.whole) (by k.key k.value (piece_leaf bytes) k.run k.is k.whole))
  where
    by : (key value : List Token) (leaf : Leaf) → IsRun ends_last key → IsValue value leaf → t ∷ ts ≡ key ++ value → IsPair 0 (key ++ value) (assigned (root key) leaf)
    by [] _ _ r IsValue.none w = absurd (nothing w)
      where
        nothing : t ∷ ts ≡ [] → ⊥
        nothing w = cc
    by (u ∷ key) _ _ r IsValue.none w = subst (λ (l : List Token). IsPair 0 l (assigned (root (u ∷ key)) NoValue)) (sym (append-nil (u ∷ key))) (IsPair.name r)
    by key _ _ r (IsValue.some {t} {v} e q) w = IsPair.value t key v r (IsValue.some e q)

-- tokens in front of others, which are the pairs of these pieces
front_pair : {front : List Token} {piece : List ℕ} (rest : List Token) (pieces : List (List ℕ)) → Spells front piece → IsRun is_amp front → IsEnd rest
    → ArePairs 0 rest (map piece_pair (filter isnt_empty pieces)) → ArePairs 0 (front ++ rest) (map piece_pair (filter isnt_empty (piece ∷ pieces)))
front_pair rest pieces Spells.none r e h = h
front_pair rest pieces (Spells.byte {ts} {bytes} b s) r e h = ArePairs.pair (byte_token b ∷ ts) rest (pair_of (byte_token b) ts (b ∷ bytes) (keyed (Spells.byte b s) r)) e h
front_pair rest pieces (Spells.bracket {ts} {bytes} t b c d k w p q u s) r e h = ArePairs.pair (t ∷ ts) rest (pair_of t ts (b ∷ c ∷ d ∷ bytes) (keyed (Spells.bracket t b c d k w p q u s) r)) e h

-- the first piece and the others
record Cut (ts : List Token) (bytes : List ℕ) : Type 0 where
  front : List Token
  rest : List Token
  piece : List ℕ
  pieces : List (List ℕ)
  whole : ts ≡ front ++ rest
  spells : Spells front piece
  run : IsRun is_amp front
  end : IsEnd rest
  parts : split bytes ≡ piece ∷ pieces
  pairs : ArePairs 0 rest (map piece_pair (filter isnt_empty pieces))

joined : {ts : List Token} {bytes : List ℕ} → Cut ts bytes → ArePairs 0 ts (piece_pairs bytes)
joined {ts} {bytes} c =
    subst (λ (l : List (List ℕ)). ArePairs 0 ts (map piece_pair (filter isnt_empty l))) (sym c.parts)
    (subst (λ (l : List Token). ArePairs 0 l (map piece_pair (filter isnt_empty (c.piece ∷ c.pieces)))) (sym c.whole) (front_pair c.rest c.pieces c.spells c.run c.end c.pairs))

split_more : (b : ℕ) (bytes piece : List ℕ) (pieces : List (List ℕ)) → (b == 38) ≡ false → split bytes ≡ piece ∷ pieces → split (b ∷ bytes) ≡ (b ∷ piece) ∷ pieces
split_more b bytes piece pieces e h = ap (λ x. cond x ([] ∷ split bytes) (before_first b (split bytes))) e ∙ ap (before_first b) h

cut_of : {ts : List Token} {bytes : List ℕ} → Spells ts bytes → Cut ts bytes
cut_of Spells.none = record { front = []; rest = []; piece = []; pieces = []; whole = refl; spells = Spells.none; run = refl; end = tt; parts = refl; pairs = ArePairs.none }
cut_of (Spells.byte {ts} {bytes} b s) = by (b == 38) refl (cut_of s)
  where
    by : (x : Bool) → (b == 38) ≡ x → Cut ts bytes → Cut (byte_token b ∷ ts) (b ∷ bytes)
    by true e c =
        let k : byte_kind b ≡ Amp = ap (λ x. cond x Amp (cond (b == 61) Equals (cond (b == 91) Open (cond (b == 93) Close Other)))) e in
        record {
          front = [];
          rest = byte_token b ∷ ts;
          piece = [];
          pieces = split bytes;
          whole = refl;
          spells = Spells.none;
          run = refl;
          end = k;
          parts = ap (λ x. cond x ([] ∷ split bytes) (before_first b (split bytes))) e;
          pairs = ArePairs.amp k (joined c);
        }
    by false e c = record {
      front = byte_token b ∷ c.front;
      rest = c.rest;
      piece = b ∷ c.piece;
      pieces = c.pieces;
      whole = ap (λ l. byte_token b ∷ l) c.whole;
      spells = Spells.byte b c.spells;
      run = run_more is_amp (byte_token b) c.front (amp_kind b ∙ e) c.run;
      end = c.end;
      parts = split_more b bytes c.piece c.pieces e c.parts;
      pairs = c.pairs;
    }
cut_of (Spells.bracket {ts} {bytes} t b c e k r p q u s) =
    let m = cut_of s in
    record {
      front = t ∷ m.front;
      rest = m.rest;
      piece = b ∷ c ∷ e ∷ m.piece;
      pieces = m.pieces;
      whole = ap (λ l. t ∷ l) m.whole;
      spells = Spells.bracket t b c e k r p q u m.spells;
      run = run_more is_amp t m.front (or_both (is_amp t.kind) (is_equals t.kind) k).0 m.run;
      end = m.end;
      parts = split_more b (c ∷ e ∷ bytes) (c ∷ e ∷ m.piece) m.pieces (or_both (b == 38) (b == 61) p).0
          (split_more c (e ∷ bytes) (e ∷ m.piece) m.pieces (or_both (c == 38) (c == 61) q).0 (split_more e bytes m.piece m.pieces (or_both (e == 38) (e == 61) u).0 m.parts));
      pairs = m.pairs;
    }

pub are_pairs : (is_form : Bool) (input : List ℕ) → ArePairs 0 (tokens is_form input) (piece_pairs input)
are_pairs is_form input = joined (cut_of (tokens_spell is_form input))

pub pieces_alone : (is_form : Bool) (input : List ℕ) (pairs : List Pair) → ArePairs 0 (tokens is_form input) pairs ↔ (pairs ≡ piece_pairs input)
pieces_alone is_form input pairs = (
  λ h. one_list 0 (tokens is_form input) pairs (piece_pairs input) h (are_pairs is_form input),
  λ e. subst (λ (ps : List Pair). ArePairs 0 (tokens is_form input) ps) (sym e) (are_pairs is_form input),
)
