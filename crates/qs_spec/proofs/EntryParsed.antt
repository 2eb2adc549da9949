-- What is written of entries is parsed as their pairs.
use Rattle.std.proofs.Common.{◌≡◌, ℕ, zero, suc, length, ◌≤◌, arith, Option, Some, None, ◌+◌, Bool, true, false, cond, not, ◌&&◌, List, [], ◌∷◌, ◌++◌, map, refl, sym, ap, ap₂, ◌∙◌, subst, append_assoc, append-nil}
use Rattle.std.specs.List.{list_all, AllByRecursion}
use Rattle.qs_spec.specs.Escape.{encoded}
use Rattle.qs_spec.specs.Segment.{ParsedSegment, parsed_segment_of}
use Rattle.qs_spec.specs.Leaf.{value_leaf}
use Rattle.qs_spec.specs.Token.{tokens, byte_token, Token, TokenKind, raw_of}
use Rattle.qs_spec.specs.Token.TokenKind.{Other}
use Rattle.qs_spec.specs.Entry.{Path, Entry}
use Rattle.qs_spec.specs.Written.{open_bytes, close_bytes, value_text, brackets_text, path_text, has_key, entry_text, written}
use Rattle.qs_spec.specs.internal.WrittenEntries.{entry_leaf, parsed_path, entry_pair, IsSegment, IsValueOf, IsWritable, HasKey}
use Rattle.qs_spec.specs.Leaf.Leaf.{NoValue}
use Rattle.qs_spec.specs.Grammar.{Pair, assigned, is_close, ends_root, IsRun, root, longer, IsValue, IsBrackets, IsPair, ArePairs}
use Rattle.qs_spec.proofs.EncodedTokens.{token_of_byte, no_bracket, is_other, encoded_tokens, open_token, close_token, open_first, close_first, clear_value, Front, value_front, segment_tokens}
use Rattle.qs_spec.proofs.Booleans.{and_both}

-- segments in brackets and then some text, and a whole key and then some text
abbrev pub brackets_then : Bool → Path → List ℕ → List ℕ
brackets_then is_form [] text = text
brackets_then is_form (s ∷ path) text = open_bytes is_form ++ (encoded is_form s ++ (close_bytes is_form ++ brackets_then is_form path text))

abbrev pub key_then : Bool → Path → List ℕ → List ℕ
key_then is_form [] text = text
key_then is_form (s ∷ path) text = encoded is_form s ++ brackets_then is_form path text

pub brackets_first : (is_form : Bool) (path : Path) (text : List ℕ) → brackets_text is_form path ++ text ≡ brackets_then is_form path text
brackets_first is_form [] text = refl
brackets_first is_form (s ∷ path) text =
    append_assoc (open_bytes is_form) (encoded is_form s ++ (close_bytes is_form ++ brackets_text is_form path)) text
    ∙ ap (λ l. open_bytes is_form ++ l) (append_assoc (encoded is_form s) (close_bytes is_form ++ brackets_text is_form path) text
    ∙ ap (λ l. encoded is_form s ++ l) (append_assoc (close_bytes is_form) (brackets_text is_form path) text ∙ ap (λ l. close_bytes is_form ++ l) (brackets_first is_form path text)))

pub key_first : (is_form : Bool) (path : Path) (text : List ℕ) → path_text is_form path ++ text ≡ key_then is_form path text
unfolding path_text
key_first is_form [] text = refl
key_first is_form (s ∷ path) text = append_assoc (encoded is_form s) (brackets_text is_form path) text ∙ ap (λ l. encoded is_form s ++ l) (brackets_first is_form path text)

-- runs of other tokens are runs
pub other_run : (ends : TokenKind → Bool) → ends Other ≡ false → (ts : List Token) → list_all (λ t. is_other t.kind) ts ≡ true → IsRun ends ts
other_run ends e [] h = refl
other_run ends e (t ∷ ts) h =
    let p = and_both (is_other t.kind) _ h in
    ap₂ (λ a b. not a && b) (of t.kind p.0) (other_run ends e ts p.1)
  where
    of : (k : TokenKind) → is_other k ≡ true → ends k ≡ false
    of Other h = e
    of TokenKind.Amp h = cc
    of TokenKind.Equals h = cc
    of TokenKind.Open h = cc
    of TokenKind.Close h = cc

pub joins : (path : List ParsedSegment) (s : ParsedSegment) (more : List ParsedSegment) → (path ++ s ∷ []) ++ more ≡ path ++ s ∷ more
joins path s more = append_assoc path (s ∷ []) more

-- a segment in brackets, in front of one more opening bracket and what follows it
pub brackets_more : (is_form : Bool) (room : ℕ) (pair : List ParsedSegment → Pair) (path : List ParsedSegment) (bracket s tail rest : List ℕ) (more : List ParsedSegment) → IsSegment is_form s
    → ((longer : List ParsedSegment) → Front (λ ts. IsBrackets room longer (open_bytes is_form) ts (pair (longer ++ more))) is_form tail rest)
    → Front (λ ts. IsBrackets (suc room) path bracket ts (pair (path ++ parsed_segment_of (encoded is_form s) ∷ more))) is_form (encoded is_form s ++ (close_bytes is_form ++ (open_bytes is_form ++ tail))) rest
brackets_more is_form room pair path bracket s tail rest more h follows =
    let g = segment_tokens is_form s (close_bytes is_form ++ (open_bytes is_form ++ (tail ++ rest))) h in
    let w = follows (longer path (raw_of (g.first ∷ g.more))) in
    record {
      toks = g.first ∷ g.more ++ close_token is_form ∷ open_token is_form ∷ w.toks;
      is = subst (λ (p : List ParsedSegment). IsBrackets (suc room) path bracket (g.first ∷ g.more ++ close_token is_form ∷ open_token is_form ∷ w.toks) (pair p))
          (ap (λ (raw : List ℕ). longer path raw ++ more) g.raw ∙ joins path (parsed_segment_of (encoded is_form s)) more)
          (IsBrackets.more g.first (close_token is_form) (open_token is_form) g.more w.toks (other_run is_close refl (g.first ∷ g.more) g.run) refl refl w.is);
      whole = ap (tokens is_form) (append_assoc (encoded is_form s) (close_bytes is_form ++ (open_bytes is_form ++ tail)) rest ∙ ap (λ l. encoded is_form s ++ l) (append_assoc (close_bytes is_form) (open_bytes is_form ++ tail) rest ∙ ap (λ l. close_bytes is_form ++ l) (append_assoc (open_bytes is_form) tail rest)))
          ∙ g.whole ∙ ap (λ l. g.first ∷ g.more ++ l) (close_first is_form (open_bytes is_form ++ (tail ++ rest)) ∙ ap (λ l. close_token is_form ∷ l) (open_first is_form (tail ++ rest) ∙ ap (λ l. open_token is_form ∷ l) w.whole))
          ∙ sym (append_assoc (g.first ∷ g.more) (close_token is_form ∷ open_token is_form ∷ w.toks) (tokens is_form rest));
    }

brackets_front : (is_form : Bool) (room : ℕ) (segs : List (List ℕ)) (s : List ℕ) (v : Option (List ℕ)) (path : List ParsedSegment) (bracket rest : List ℕ) → suc (length segs) ≤ room → IsSegment is_form s → AllByRecursion (IsSegment is_form) segs → IsValueOf ([] ∷ []) v
    → Front (λ ts. IsBrackets room path bracket ts (assigned (path ++ parsed_path is_form (s ∷ segs)) (entry_leaf is_form v))) is_form (encoded is_form s ++ (close_bytes is_form ++ brackets_then is_form segs (value_text is_form v))) rest
brackets_front is_form zero segs s v path bracket rest l h hs i = absurd (omega arith)
brackets_front is_form (suc room) [] s v path bracket rest l h hs i =
    let w = value_front is_form v rest i in
    let g = segment_tokens is_form s (close_bytes is_form ++ (value_text is_form v ++ rest)) h in
    record {
      toks = g.first ∷ g.more ++ close_token is_form ∷ w.toks;
      is = subst (λ (raw : List ℕ). IsBrackets (suc room) path bracket (g.first ∷ g.more ++ close_token is_form ∷ w.toks) (assigned (longer path raw) (entry_leaf is_form v))) g.raw
          (IsBrackets.segment g.first (close_token is_form) g.more w.toks (other_run is_close refl (g.first ∷ g.more) g.run) refl w.is);
      whole = ap (tokens is_form) (append_assoc (encoded is_form s) (close_bytes is_form ++ value_text is_form v) rest ∙ ap (λ l. encoded is_form s ++ l) (append_assoc (close_bytes is_form) (value_text is_form v) rest))
          ∙ g.whole ∙ ap (λ l. g.first ∷ g.more ++ l) (close_first is_form (value_text is_form v ++ rest) ∙ ap (λ l. close_token is_form ∷ l) w.whole)
          ∙ sym (append_assoc (g.first ∷ g.more) (close_token is_form ∷ w.toks) (tokens is_form rest));
    }
brackets_front is_form (suc room) (s2 ∷ segs) s v path bracket rest l h hs i =
    brackets_more is_form room (λ p. assigned p (entry_leaf is_form v)) path bracket s (encoded is_form s2 ++ (close_bytes is_form ++ brackets_then is_form segs (value_text is_form v))) rest (parsed_path is_form (s2 ∷ segs)) h
    (λ p. brackets_front is_form room segs s2 v p (open_bytes is_form) rest (omega arith) hs.0 hs.1 i)

pub root_run : (depth : ℕ) (ts : List Token) → list_all (λ t. is_other t.kind) ts ≡ true → IsRun (ends_root depth) ts
root_run zero ts h = other_run (ends_root zero) refl ts h
root_run (suc depth) ts h = other_run (ends_root (suc depth)) refl ts h

pub some_value : (segs : List (List ℕ)) (v : Option (List ℕ)) → has_key segs ≡ true → IsValueOf segs v → IsValueOf ([] ∷ []) v
some_value [] v k h = cc
some_value (s ∷ segs) None k h = h
some_value (s ∷ segs) (Some v) k h = h

key_value : (is_form : Bool) (depth : ℕ) (s : List ℕ) (v : Option (List ℕ)) (rest : List ℕ) → IsSegment is_form s → IsValueOf ([] ∷ []) v
    → Front (λ ts. IsPair depth ts (assigned (parsed_segment_of (encoded is_form s) ∷ []) (entry_leaf is_form v))) is_form (encoded is_form s ++ value_text is_form v) rest
key_value is_form depth s None rest h i =
    let g = segment_tokens is_form s rest h in
    record {
      toks = g.first ∷ g.more;
      is = subst (λ (raw : List ℕ). IsPair depth (g.first ∷ g.more) (assigned (parsed_segment_of raw ∷ []) NoValue)) g.raw (IsPair.name (root_run depth (g.first ∷ g.more) g.run));
      whole = ap (λ l. tokens is_form (l ++ rest)) (append-nil (encoded is_form s)) ∙ g.whole;
    }
key_value is_form depth s (Some v) rest h i =
    let t = encoded_tokens false is_form v rest i (clear_value is_form v) in
    let g = segment_tokens is_form s (value_text is_form (Some v) ++ rest) h in
    record {
      toks = g.first ∷ g.more ++ byte_token 61 ∷ t.toks;
      is = subst (λ (raw : List ℕ). IsPair depth (g.first ∷ g.more ++ byte_token 61 ∷ t.toks) (assigned (parsed_segment_of (encoded is_form s) ∷ []) (value_leaf raw))) t.raw
          (subst (λ (raw : List ℕ). IsPair depth (g.first ∷ g.more ++ byte_token 61 ∷ t.toks) (assigned (parsed_segment_of raw ∷ []) (value_leaf (raw_of t.toks)))) g.raw
          (IsPair.value (byte_token 61) (g.first ∷ g.more) t.toks (root_run depth (g.first ∷ g.more) g.run) (IsValue.some refl t.suit)));
      whole = ap (tokens is_form) (append_assoc (encoded is_form s) (value_text is_form (Some v)) rest)
          ∙ g.whole ∙ ap (λ l. g.first ∷ g.more ++ l) (token_of_byte is_form 61 (encoded is_form v ++ rest) (no_bracket is_form 61 (encoded is_form v ++ rest) refl) ∙ ap (λ l. byte_token 61 ∷ l) t.whole)
          ∙ sym (append_assoc (g.first ∷ g.more) (byte_token 61 ∷ t.toks) (tokens is_form rest));
    }

-- a root key in front of an opening bracket and what follows it
pub key_more : (is_form : Bool) (depth : ℕ) (pair : List ParsedSegment → Pair) (s tail rest : List ℕ) (more : List ParsedSegment) → IsSegment is_form s
    → ((path : List ParsedSegment) → Front (λ ts. IsBrackets (suc depth) path (open_bytes is_form) ts (pair (path ++ more))) is_form tail rest)
    → Front (λ ts. IsPair (suc depth) ts (pair (parsed_segment_of (encoded is_form s) ∷ more))) is_form (encoded is_form s ++ (open_bytes is_form ++ tail)) rest
key_more is_form depth pair s tail rest more h follows =
    let g = segment_tokens is_form s (open_bytes is_form ++ (tail ++ rest)) h in
    let w = follows (root (g.first ∷ g.more)) in
    record {
      toks = g.first ∷ g.more ++ open_token is_form ∷ w.toks;
      is = subst (λ (raw : List ℕ). IsPair (suc depth) (g.first ∷ g.more ++ open_token is_form ∷ w.toks) (pair (parsed_segment_of raw ∷ more))) g.raw
          (IsPair.brackets (open_token is_form) (g.first ∷ g.more) w.toks (root_run (suc depth) (g.first ∷ g.more) g.run) refl refl w.is);
      whole = ap (tokens is_form) (append_assoc (encoded is_form s) (open_bytes is_form ++ tail) rest ∙ ap (λ l. encoded is_form s ++ l) (append_assoc (open_bytes is_form) tail rest))
          ∙ g.whole ∙ ap (λ l. g.first ∷ g.more ++ l) (open_first is_form (tail ++ rest) ∙ ap (λ l. open_token is_form ∷ l) w.whole)
          ∙ sym (append_assoc (g.first ∷ g.more) (open_token is_form ∷ w.toks) (tokens is_form rest));
    }

key_brackets : (is_form : Bool) (depth : ℕ) (s s2 : List ℕ) (segs : List (List ℕ)) (v : Option (List ℕ)) (rest : List ℕ) → suc (length segs) ≤ depth → IsSegment is_form s → IsSegment is_form s2 → AllByRecursion (IsSegment is_form) segs → IsValueOf ([] ∷ []) v
    → Front (λ ts. IsPair depth ts (assigned (parsed_segment_of (encoded is_form s) ∷ parsed_path is_form (s2 ∷ segs)) (entry_leaf is_form v))) is_form (encoded is_form s ++ brackets_then is_form (s2 ∷ segs) (value_text is_form v)) rest
key_brackets is_form zero s s2 segs v rest l h h2 hs i = absurd (omega arith)
key_brackets is_form (suc depth) s s2 segs v rest l h h2 hs i =
    key_more is_form depth (λ p. assigned p (entry_leaf is_form v)) s (encoded is_form s2 ++ (close_bytes is_form ++ brackets_then is_form segs (value_text is_form v))) rest (parsed_path is_form (s2 ∷ segs)) h
    (λ p. brackets_front is_form (suc depth) segs s2 v p (open_bytes is_form) rest l h2 hs i)

pub entry_front : (is_form : Bool) (depth : ℕ) (path : List (List ℕ)) (v : Option (List ℕ)) (rest : List ℕ) → AllByRecursion (IsSegment is_form) path → length path ≤ depth + 1 → IsValueOf path v → has_key path ≡ true
    → Front (λ ts. IsPair depth ts (assigned (parsed_path is_form path) (entry_leaf is_form v))) is_form (key_then is_form path (value_text is_form v)) rest
entry_front is_form depth [] v rest h l i k = cc
entry_front is_form depth (s ∷ []) v rest h l i k = key_value is_form depth s v rest h.0 (some_value (s ∷ []) v refl i)
entry_front is_form depth (s ∷ s2 ∷ segs) v rest h l i k = key_brackets is_form depth s s2 segs v rest (omega arith) h.0 h.1.0 h.1.1 (some_value (s ∷ s2 ∷ segs) v refl i)

-- an entry with a path as a pair, in front of what follows
entry_parsed : (is_form : Bool) (depth : ℕ) (e : Entry) (rest : List ℕ) → IsWritable is_form depth e → HasKey e → Front (λ ts. IsPair depth ts (entry_pair is_form e)) is_form (path_text is_form e.path ++ value_text is_form e.value) rest
entry_parsed is_form depth e rest w k =
    let f = entry_front is_form depth e.path e.value rest w.segments w.short w.value k in
    record { toks = f.toks; is = f.is; whole = ap (λ l. tokens is_form (l ++ rest)) (key_first is_form e.path (value_text is_form e.value)) ∙ f.whole }

-- an entry without one: `=` and a value
value_pair : (is_form : Bool) (depth : ℕ) (v : Option (List ℕ)) → IsValueOf [] v → Front (λ ts. IsPair depth ts (assigned [] (entry_leaf is_form v))) is_form (value_text is_form v) []
value_pair is_form depth None h = absurd h
value_pair is_form depth (Some v) h =
    let t = encoded_tokens false is_form v [] h (clear_value is_form v) in
    record {
      toks = byte_token 61 ∷ t.toks;
      is = subst (λ (raw : List ℕ). IsPair depth (byte_token 61 ∷ t.toks) (assigned [] (value_leaf raw))) t.raw (IsPair.value (byte_token 61) [] t.toks refl (IsValue.some refl t.suit));
      whole = token_of_byte is_form 61 (encoded is_form v ++ []) (no_bracket is_form 61 (encoded is_form v ++ []) refl) ∙ ap (λ l. byte_token 61 ∷ l) t.whole;
    }

-- one pair and nothing else
pub alone : {is_form : Bool} {depth : ℕ} {text : List ℕ} {p : Pair} → Front (λ ts. IsPair depth ts p) is_form text [] → ArePairs depth (tokens is_form text) (p ∷ [])
alone {is_form} {depth} {text} {p} f =
    subst (λ (ts : List Token). ArePairs depth ts (p ∷ [])) (sym (ap (tokens is_form) (sym (append-nil text)) ∙ f.whole)) (ArePairs.pair f.toks [] f.is tt ArePairs.none)

-- one pair in front of `&` and others
pub before : {is_form : Bool} {depth : ℕ} {text rest : List ℕ} {p : Pair} {ps : List Pair} → Front (λ ts. IsPair depth ts p) is_form text (38 ∷ rest) → ArePairs depth (tokens is_form rest) ps → ArePairs depth (tokens is_form (text ++ 38 ∷ rest)) (p ∷ ps)
before {is_form} {depth} {text} {rest} {p} {ps} f more =
    subst (λ (ts : List Token). ArePairs depth ts (p ∷ ps)) (sym (f.whole ∙ ap (λ l. f.toks ++ l) (token_of_byte is_form 38 rest (no_bracket is_form 38 rest refl))))
    (ArePairs.pair f.toks (byte_token 38 ∷ tokens is_form rest) f.is refl (ArePairs.amp refl more))

-- entries with paths, after nothing and after another one
pub text_of_first : (is_form : Bool) (e : Entry) (es : List Entry) → HasKey e → written is_form false (e ∷ es) ≡ (path_text is_form e.path ++ value_text is_form e.value) ++ written is_form true es
unfolding written entry_text
text_of_first is_form e es k = ap (λ b. (cond b [] [] ++ (path_text is_form e.path ++ value_text is_form e.value)) ++ written is_form b es) k

pub text_of_next : (is_form : Bool) (e : Entry) (es : List Entry) → HasKey e → written is_form true (e ∷ es) ≡ 38 ∷ written is_form false (e ∷ es)
unfolding written entry_text
text_of_next is_form e es k =
    ap (λ b. (cond b (38 ∷ []) [] ++ (path_text is_form e.path ++ value_text is_form e.value)) ++ written is_form true es) k
    ∙ ap (λ l. 38 ∷ l) (sym (text_of_first is_form e es k))

-- What is written of entries with paths is parsed as their pairs.
pub written_pairs : (is_form : Bool) (depth : ℕ) (es : List Entry) → AllByRecursion (IsWritable is_form depth) es → AllByRecursion HasKey es → ArePairs depth (tokens is_form (written is_form false es)) (map (entry_pair is_form) es)
unfolding written
written_pairs is_form depth [] h k = ArePairs.none
written_pairs is_form depth (e ∷ []) h k =
    subst (λ (text : List ℕ). ArePairs depth (tokens is_form text) (entry_pair is_form e ∷ [])) (sym (text_of_first is_form e [] k.0 ∙ append-nil _)) (alone (entry_parsed is_form depth e [] h.0 k.0))
written_pairs is_form depth (e ∷ f ∷ es) h k =
    subst (λ (text : List ℕ). ArePairs depth (tokens is_form text) (map (entry_pair is_form) (e ∷ f ∷ es)))
    (sym (text_of_first is_form e (f ∷ es) k.0 ∙ ap (λ l. (path_text is_form e.path ++ value_text is_form e.value) ++ l) (text_of_next is_form f es k.1.0)))
    (before (entry_parsed is_form depth e (38 ∷ written is_form false (f ∷ es)) h.0 k.0) (written_pairs is_form depth (f ∷ es) h.1 k.1))

-- So is what is written of a single entry, with a path or without one.
pub written_pair : (is_form : Bool) (depth : ℕ) (e : Entry) → IsWritable is_form depth e → ArePairs depth (tokens is_form (written is_form false (e ∷ []))) (entry_pair is_form e ∷ [])
unfolding written entry_text path_text
written_pair is_form depth e w = by e.path e.value w
  where
    by : (path : Path) (value : Option (List ℕ)) → IsWritable is_form depth (record { path = path; value = value }) → ArePairs depth (tokens is_form (written is_form false (record { path = path; value = value } ∷ []))) (assigned (parsed_path is_form path) (entry_leaf is_form value) ∷ [])
    by [] value w = subst (λ (text : List ℕ). ArePairs depth (tokens is_form text) (assigned [] (entry_leaf is_form value) ∷ [])) (sym (append-nil (value_text is_form value))) (alone (value_pair is_form depth value w.value))
    by (s ∷ path) value w = written_pairs is_form depth (record { path = s ∷ path; value = value } ∷ []) (w, tt) (refl, tt)
