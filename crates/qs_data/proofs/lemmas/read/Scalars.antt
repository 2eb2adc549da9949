-- What is read as a boolean, a number or a character of a text, and of the text that a scalar is read from.
use Rattle.qs_data.proofs.Common.{◌≡◌, ℕ, suc, ◌-◌, ◌≤◌, ◌⊎◌, inl, inr, Bool, true, false, cond, List, [], ◌∷◌, ◌++◌, append-nil, length, slice_get, map, codes, Option, Some, None, Result, refl, sym, ap, ◌∙◌, arith, rules, option_map, option_and_then, bytes_eq, all_scalars, encode_utf8_all, IsUtf8-from_is_utf8, chars_past_char, chars-nil, encodes-chars, scalars-chars, cases_Bool, false≢true, Tree, Items, leaf, sequence, no_items, item, boolean_data, unsigned_data, signed_data, character_data, only_character, last_item, item_text, read_scalar, tree_of, items_from, ParsedValue, ReadError, ReadGives, data_of, is_text, items_are_text, given_text, data_by_text, utf8_text}
use Rattle.std.specs.Str.{is_utf8, chars}
use Rattle.std.specs.Char.{IsScalar, encode_utf8}
use Rattle.std.proofs.lemmas.Slice.Eq.{bytes_eq-Decides}
use Rattle.qs_spec.proofs.Booleans.{and_both}
use Rattle.qs_spec.specs.Leaf.Leaf.{NoValue, Null, Text}
use Rattle.qs_spec.specs.Data.{Data}
use Rattle.qs_data.proofs.lemmas.read.Numbers.{unsigned_text, signed_text}
use Rattle.qs_data.proofs.lemmas.read.Errors.{and_left, and_right}
use Rattle.qs_data.proofs.lemmas.read.ReadErrors.{gives_as}
use Rattle.qs_spec.specs.Leaf.{leaf_text}
use Rattle.qs_data.specs.declared.data.data.Data as v

pub utf8_none : (b : List ℕ) → utf8_text b ≡ None → is_utf8 b ≡ false
utf8_none b h = elim (cases_Bool (is_utf8 b)) [
  | inl good ↦ absurd (let e : Some b ≡ None = sym (rw good) ∙ h in cc)
  | inr bad ↦ bad
]

pub utf8_some : (b c : List ℕ) → utf8_text b ≡ Some c → (is_utf8 b ≡ true) × (c ≡ b)
utf8_some b c h = elim (cases_Bool (is_utf8 b)) [
  | inl good ↦ (good, let e : Some b ≡ Some c = sym (rw good) ∙ h in cc)
  | inr bad ↦ absurd (let e : None ≡ Some c = sym (rw bad) ∙ h in cc)
]

-- the text that a scalar is read from says what is read
pub scalar_is : (reject_duplicates : Bool) (empty : Option Data) (get : List ℕ → Option Data) (t : Tree) (o : Option (List ℕ)) → given_text reject_duplicates t ≡ Some o → read_scalar reject_duplicates empty get t ≡ data_by_text empty get o
scalar_is reject_duplicates empty get (leaf NoValue) o h = let e : None ≡ o = cc in ap (data_by_text empty get) e
scalar_is reject_duplicates empty get (leaf Null) o h = let e : None ≡ o = cc in ap (data_by_text empty get) e
scalar_is reject_duplicates empty get (leaf (Text b m)) o h = let e : Some b ≡ o = cc in ap (data_by_text empty get) e
scalar_is reject_duplicates empty get (sequence xs) o h = by_last (last_item reject_duplicates xs) h where
  by_last : (l : Option (List ℕ)) → option_map Some l ≡ Some o → option_and_then get l ≡ data_by_text empty get o
  by_last None k = absurd cc
  by_last (Some b) k = let e : Some b ≡ o = cc in ap (data_by_text empty get) e
scalar_is reject_duplicates empty get t o h = absurd cc

item_bad : (t : Tree) (b : List ℕ) → item_text t ≡ Some b → is_utf8 b ≡ false → is_text t ≡ false
item_bad (leaf l) b h n = let e : leaf_text l ≡ b = cc in ap is_utf8 e ∙ n
item_bad t b h n = absurd cc

last_bad : (reject_duplicates : Bool) (xs : Items) (b : List ℕ) → last_item reject_duplicates xs ≡ Some b → is_utf8 b ≡ false → items_are_text xs ≡ false
last_bad reject_duplicates (item t no_items) b h n = and_left (is_text t) true (item_bad t b h n)
last_bad false (item t (item u xs)) b h n = and_right (is_text t) (items_are_text (item u xs)) (last_bad false (item u xs) b h n)
last_bad reject_duplicates xs b h n = absurd cc

pub scalar_bad : (reject_duplicates : Bool) (t : Tree) (b : List ℕ) → given_text reject_duplicates t ≡ Some (Some b) → is_utf8 b ≡ false → is_text t ≡ false
scalar_bad reject_duplicates (leaf (Text c m)) b h n = let e : c ≡ b = cc in ap is_utf8 e ∙ n
scalar_bad reject_duplicates (sequence xs) b h n = by_last (last_item reject_duplicates xs) refl h where
  by_last : (l : Option (List ℕ)) → last_item reject_duplicates xs ≡ l → option_map Some l ≡ Some (Some b) → items_are_text xs ≡ false
  by_last None e k = absurd cc
  by_last (Some c) e k = let same : c ≡ b = cc in last_bad reject_duplicates xs b (e ∙ ap Some same) n
scalar_bad reject_duplicates t b h n = absurd cc

-- what is read of the text that a scalar is read from is read of the scalar
pub scalar_gives : {X : Type 0} (view : X → Data) (reject_duplicates : Bool) (empty : Option Data) (get : List ℕ → Option Data) (t : Tree) (b : List ℕ) (x : Result X ReadError)
    → given_text reject_duplicates t ≡ Some (Some b) → ReadGives view (is_utf8 b) x (get b) → ReadGives view (is_text t) x (read_scalar reject_duplicates empty get t)
scalar_gives view reject_duplicates empty get t b x h g = gives_as view (is_utf8 b) (is_text t) x (get b) (read_scalar reject_duplicates empty get t) g (sym (scalar_is reject_duplicates empty get t (Some b) h)) (scalar_bad reject_duplicates t b h)

-- the last of some items
pub last_item_is : (reject_duplicates : Bool) (ts : List ParsedValue) (d : ParsedValue) → Some d ≡ slice_get ts (length ts - 1) → ((reject_duplicates ≡ true) × (length ts ≤ 1)) ⊎ (reject_duplicates ≡ false)
    → last_item reject_duplicates (items_from (map tree_of ts)) ≡ item_text (tree_of d)
last_item_is reject_duplicates [] d h k = absurd cc
last_item_is reject_duplicates (t ∷ []) d h k = let e : t ≡ d = cc in ap (λ x. item_text (tree_of x)) e
last_item_is reject_duplicates (t ∷ u ∷ ts) d h (inl k) = absurd (omega (arith, k.1))
last_item_is reject_duplicates (t ∷ u ∷ ts) d h (inr k) =
    let same : length (t ∷ u ∷ ts) - 1 ≡ suc (length (u ∷ ts) - 1) = omega arith in
    ap (λ b. cond b None (last_item reject_duplicates (items_from (map tree_of (u ∷ ts))))) k
    ∙ last_item_is reject_duplicates (u ∷ ts) d (h ∙ ap (slice_get (t ∷ u ∷ ts)) same) (inr k)

pub boolean_none : (b : List ℕ) → utf8_text b ≡ None → boolean_data b ≡ None
unfolding is_utf8 chars encode_utf8
boolean_none b h = elim (cases_Bool (bytes_eq b (codes "true"))) [
  | inl is ↦ absurd (not_word (codes "true") refl is)
  | inr not ↦ elim (cases_Bool (bytes_eq b (codes "false"))) [
    | inl is ↦ absurd (not_word (codes "false") refl is)
    | inr neither ↦ rw (not, neither)
  ]
] where
  not_word : (w : List ℕ) → is_utf8 w ≡ true → bytes_eq b w ≡ true → ⊥
  not_word w good is = let same : b ≡ w = (bytes_eq-Decides b w).0 is in false≢true (sym (utf8_none b h) ∙ ap is_utf8 same ∙ good)

pub unsigned_none : (bits : ℕ) (b : List ℕ) → utf8_text b ≡ None → unsigned_data bits b ≡ None
unsigned_none bits b h = ap (option_map Data.unsigned) (unsigned_text bits b (utf8_none b h))

-- a text of one character, and of none or more
character_encoded : (b s : List ℕ) (c : ℕ) → utf8_text b ≡ Some s → s ≡ encode_utf8 c → character_data b ≡ Some (Data.character c)
character_encoded b s c h e =
    let good = utf8_some b s h in
    let one : b ≡ encode_utf8 c ++ [] = sym good.1 ∙ e ∙ sym (append-nil (encode_utf8 c)) in
    let alone : chars b ≡ c ∷ chars [] = chars_past_char b [] c (IsUtf8-from_is_utf8 b good.0) one in
    rw good.0 (ap only_character (alone ∙ ap (λ cs. c ∷ cs) chars-nil))

pub character_is : (b s : List ℕ) (c : ℕ) → utf8_text b ≡ Some s → s ≡ encode_utf8 c → character_data b ≡ Some (data_of (v.Char c))
character_is b s c h e = let seen : data_of (v.Char c) ≡ Data.character c = search (rules, v.the_lemmas) in character_encoded b s c h e ∙ ap Some (sym seen)

only_one : (b : List ℕ) (cs : List ℕ) → encode_utf8_all cs ≡ b → all_scalars cs ≡ true → ((c : ℕ) → IsScalar c → b ≡ encode_utf8 c → ⊥) → only_character cs ≡ None
only_one b [] e s h = refl
only_one b (c ∷ []) e s h = absurd (h c (and_both _ true s).0 (sym e ∙ append-nil (encode_utf8 c)))
only_one b (c ∷ d ∷ cs) e s h = refl

pub character_none : (b s : List ℕ) → utf8_text b ≡ Some s → ((c : ℕ) → IsScalar c → s ≡ encode_utf8 c → ⊥) → character_data b ≡ None
character_none b s h e =
    let good = utf8_some b s h in
    let text = IsUtf8-from_is_utf8 b good.0 in
    rw good.0 (only_one b (chars b) (encodes-chars b text) (scalars-chars b text) (λ c is k. e c is (good.1 ∙ k)))

pub signed_none : (bits : ℕ) (b : List ℕ) → utf8_text b ≡ None → signed_data bits b ≡ None
signed_none bits b h = ap (option_map Data.signed) (signed_text bits b (utf8_none b h))
