-- Lists and maps that are being read, one within the other.
use Rattle.qs_data.proofs.Common.{◌≡◌, ℕ, suc, ◌+◌, ◌*◌, ◌<◌, ◌≤◌, ◌&&◌, Bool, true, false, List, [], ◌∷◌, ◌++◌, slice_get, drop, map, Option, Some, None, refl, sym, ap, ◌∙◌, subst, arith, inl, inr, Result, Ok, Err, Vec, cases_Bool, All-push, All-pop, All, option_map, option_and_then, is_utf8, IsErrAnd, Global, values_of, pairs_of, key_data, ParsedSegment, segment_text, KeyShape, Tree, Entries, sequence, mapping, entry, items, are_ints, placed, sequence_items, any_data, read_each, read_pairs, with_front, ReadError, entries_of_map, entry_list, Begins, Enters, Advances, Extends, entries_left, frame_data, frame_after, frame_size, frame_is_text, list_begun, map_begun, ReadRejects, items_view, first_item, are_text, entries_after, tree_size, list_size, entries_size, data_of, pair_of, is_text, entries_are_text, same_Some}
use Rattle.qs_spec.specs.Data.{Data}
use Rattle.qs_data.specs.declared.data.data.Data as r
use Rattle.qs_data.specs.declared.read.items.NodeItems.{NodeItems as Visited}
use Rattle.qs_data.specs.declared.read.nested.PartialMap.{PartialMap}
use Rattle.qs_data.specs.declared.read.nested.Partial.{Partial}
use Rattle.qs_data.specs.declared.read.nested.Partial.TheVariants as frame
use Rattle.qs_spec.proofs.AnyIsRead.{map_is}
use Rattle.qs_data.proofs.lemmas.read.Anything.{is_list, any_list}
use Rattle.qs_data.proofs.lemmas.read.Entries.{after_some}
use Rattle.qs_data.proofs.lemmas.read.Items.{first_some, items_bad}
use Rattle.qs_data.proofs.lemmas.read.Errors.{and_left, and_right}
use Rattle.qs_data.proofs.lemmas.read.ReadErrors.{rejected}
use Rattle.qs_data.proofs.lemmas.read.Sizes.{each_size, placed_size}

-- what frames give, the outermost first, where the node that is being read gives this
abbrev pub frames_after : List Partial → Option Data → Option Data
frames_after [] inner = inner
frames_after (l ∷ ls) inner = frame_after l (frames_after ls inner)

-- how much is left of frames, and one for each
abbrev pub frames_size : List Partial → ℕ
frames_size [] = 0
frames_size (l ∷ ls) = suc (2 * frame_size l) + frames_size ls

-- where one of the frames isn't text, the whole isn't
abbrev pub IsTextOf : Bool → Partial → Type 0
IsTextOf whole l = frame_is_text l ≡ false → whole ≡ false

pub after_push : (ls : List Partial) (l : Partial) (inner : Option Data) → frames_after (ls ++ l ∷ []) inner ≡ frames_after ls (frame_after l inner)
after_push [] l inner = refl
after_push (k ∷ ls) l inner = ap (frame_after k) (after_push ls l inner)

pub size_push : (ls : List Partial) (l : Partial) → frames_size (ls ++ l ∷ []) ≡ frames_size ls + suc (2 * frame_size l)
size_push [] l = omega arith
size_push (k ∷ ls) l = let e = size_push ls l in omega arith

-- nothing comes of nothing
pub frame_none : (l : Partial) → frame_after l None ≡ None
frame_none (frame.List l) = refl
frame_none (frame.Map m) = refl

pub frames_none : (ls : List Partial) → frames_after ls None ≡ None
frames_none [] = refl
frames_none (l ∷ ls) = ap (frame_after l) (frames_none ls) ∙ frame_none l

-- a list from the item on that is due
module _ (xs : List (Option Tree)) (i : ℕ) (t : Tree) (here : first_item (drop i xs) ≡ Some (Some t)) where
  pub item_is : drop i xs ≡ Some t ∷ drop (i + 1) xs
  item_is = first_some xs i t here

  pub list_text : is_text t ≡ false → are_text (drop i xs) ≡ false
  list_text n = ap are_text item_is ∙ and_left (is_text t) (are_text (drop (i + 1) xs)) n

  pub list_text_after : are_text (drop (i + 1) xs) ≡ false → are_text (drop i xs) ≡ false
  list_text_after n = ap are_text item_is ∙ and_right (is_text t) (are_text (drop (i + 1) xs)) n

  pub list_parts : list_size (drop i xs) ≡ tree_size t + list_size (drop (i + 1) xs)
  list_parts = ap list_size item_is

  pub list_enters : (ws : List Data) (inner : Option Data) → any_data t ≡ inner
      → list_begun ws (read_each any_data (drop i xs)) ≡ list_begun ws (option_and_then (λ d. with_front d (read_each any_data (drop (i + 1) xs))) inner)
  list_enters ws inner h =
      ap (λ ys. list_begun ws (read_each any_data ys)) item_is ∙ ap (λ o. list_begun ws (option_and_then (λ d. with_front d (read_each any_data (drop (i + 1) xs))) o)) h

-- a map from the entry on that is due
module _ (es : Entries) (i : ℕ) (x : ParsedSegment × Tree) (here : slice_get (entry_list es) i ≡ Some x) where
  pub entry_is : entries_after i es ≡ entry x.0.segment x.0.escaped x.1 (entries_after (i + 1) es)
  entry_is = after_some i es x here

  pub map_string_key : is_utf8 (segment_text x.0.segment) ≡ false → entries_are_text (entries_after i es) ≡ false
  map_string_key n =
      ap entries_are_text entry_is
      ∙ and_left (is_utf8 (segment_text x.0.segment) && is_text x.1) (entries_are_text (entries_after (i + 1) es)) (and_left (is_utf8 (segment_text x.0.segment)) (is_text x.1) n)

  pub map_text : is_text x.1 ≡ false → entries_are_text (entries_after i es) ≡ false
  map_text n =
      ap entries_are_text entry_is
      ∙ and_left (is_utf8 (segment_text x.0.segment) && is_text x.1) (entries_are_text (entries_after (i + 1) es)) (and_right (is_utf8 (segment_text x.0.segment)) (is_text x.1) n)

  pub map_text_after : entries_are_text (entries_after (i + 1) es) ≡ false → entries_are_text (entries_after i es) ≡ false
  map_text_after n =
      ap entries_are_text entry_is ∙ and_right (is_utf8 (segment_text x.0.segment) && is_text x.1) (entries_are_text (entries_after (i + 1) es)) n

  pub map_parts : entries_size (entries_after i es) ≡ tree_size x.1 + entries_size (entries_after (i + 1) es)
  map_parts = ap entries_size entry_is

  pub map_enters : (ws : List (Data × Data)) (a : Data) (inner : Option Data) → key_data KeyShape.text (segment_text x.0.segment) ≡ Some a → any_data x.1 ≡ inner
      → map_begun ws (read_pairs KeyShape.text any_data (entries_after i es))
      ≡ map_begun ws (option_and_then (λ d. with_front (a, d) (read_pairs KeyShape.text any_data (entries_after (i + 1) es))) inner)
  map_enters ws a inner ha hd =
      let rest = read_pairs KeyShape.text any_data (entries_after (i + 1) es) in
      ap (λ e. map_begun ws (read_pairs KeyShape.text any_data e)) entry_is
      ∙ ap (λ key. map_begun ws (option_and_then (λ k. option_and_then (λ d. with_front (k, d) rest) (any_data x.1)) key)) ha
      ∙ ap (λ o. map_begun ws (option_and_then (λ d. with_front (a, d) rest) o)) hd

-- a node is larger than its items
pub listed_size : (t : Tree) (xs : List (Option Tree)) → is_list t ≡ true → items t ≡ Some xs → suc (list_size xs) ≤ tree_size t
listed_size (sequence ys) xs w h =
    let e : list_size (sequence_items ys) ≡ list_size xs = ap list_size (same_Some (sequence_items ys) xs h) in
    let s = each_size ys in
    omega arith
listed_size (mapping es) xs w h = elim (cases_Bool (are_ints es)) [
  | inl ints ↦
      let e : list_size (placed 0 es) ≡ list_size xs = ap list_size (same_Some (placed 0 es) xs (sym (rw ints) ∙ h)) in
      let s = placed_size 0 es in
      omega arith
  | inr not ↦ absurd (let e : None ≡ Some xs = sym (rw not) ∙ h in cc)
]
listed_size t xs w h = absurd cc

-- a frame of all items of a list
pub begins_list : (l : Partial) (t : Tree) (xs : List (Option Tree)) → is_list t ≡ true → items t ≡ Some xs
    → frame_data l ≡ option_map (λ ds. Data.sequence (values_of ds)) (read_each any_data xs) → frame_is_text l ≡ are_text xs → frame_size l ≡ list_size xs → Begins l t
begins_list l t xs w h value text size = record {
  value = any_list t xs w h ∙ sym value;
  text = λ n. items_bad t xs h (sym text ∙ n);
  size = let s = listed_size t xs w h in omega arith;
}

-- a frame of all entries of a map
pub begins_map : (l : Partial) (t : Tree) (es : Entries) → t ≡ mapping es → are_ints es ≡ false
    → frame_data l ≡ option_map (λ ps. Data.mapping (pairs_of ps)) (read_pairs KeyShape.text any_data es) → frame_is_text l ≡ entries_are_text es → frame_size l ≡ entries_size es → Begins l t
begins_map l t es is not value text size = record {
  value = ap any_data is ∙ map_is es not ∙ sym value;
  text = λ n. ap is_text is ∙ sym text ∙ n;
  size = let s : tree_size t ≡ suc (entries_size es) = ap tree_size is in omega arith;
}

-- after some leaves of a list a further frame begins
pub enters_list : (old inner : Partial) (node : Visited) (values : Vec r.Data Global) (i : ℕ) (t : Tree) → first_item (drop i (items_view node)) ≡ Some (Some t)
    → frame_data old ≡ list_begun (map data_of values.items) (read_each any_data (drop i (items_view node))) → (are_text (drop i (items_view node)) ≡ false → frame_is_text old ≡ false)
    → list_size (drop i (items_view node)) ≤ frame_size old → Begins inner t → Enters inner old (frame.List record { items = node; next = i + 1; values = values })
enters_list old inner node values i t here value text size b =
    let xs = items_view node in
    record {
      value = value ∙ list_enters xs i t here (map data_of values.items) (frame_data inner) b.value;
      inner_text = λ n. text (list_text xs i t here (b.text n));
      text = λ n. text (list_text_after xs i t here n);
      size = let parts = list_parts xs i t here in let within = b.size in omega arith;
    }

-- after some leaves of a map a further frame begins
pub enters_map : (old inner : Partial) (new : PartialMap) (es : Entries) (i : ℕ) (x : ParsedSegment × Tree) → slice_get (entry_list es) i ≡ Some x
    → entries_of_map new.entries.now ≡ es → new.next ≡ i + 1 → key_data KeyShape.text (segment_text x.0.segment) ≡ Some (data_of new.key)
    → frame_data old ≡ map_begun (map pair_of new.pairs.items) (read_pairs KeyShape.text any_data (entries_after i es)) → (entries_are_text (entries_after i es) ≡ false → frame_is_text old ≡ false)
    → entries_size (entries_after i es) ≤ frame_size old → Begins inner x.1 → Enters inner old (frame.Map new)
enters_map old inner new es i x here among next key value text size b =
    let left : entries_left new ≡ entries_after (i + 1) es = ap (λ e. entries_after new.next e) among ∙ ap (λ n. entries_after n es) next in
    let ws = map pair_of new.pairs.items in
    record {
      value = value ∙ map_enters es i x here ws (data_of new.key) (frame_data inner) key b.value
          ∙ ap (λ e. map_begun ws (option_and_then (λ d. with_front (data_of new.key, d) (read_pairs KeyShape.text any_data e)) (frame_data inner))) (sym left);
      inner_text = λ n. text (map_text es i x here (b.text n));
      text = λ n. text (map_text_after es i x here (ap entries_are_text (sym left) ∙ n));
      size =
          let parts = map_parts es i x here in
          let within = b.size in
          let same : frame_size (frame.Map new) ≡ entries_size (entries_after (i + 1) es) = ap entries_size left in
          omega arith;
    }

-- an error of a part as the error of a frame
pub advance_exit : {Y : Type 0} (t : Bool) (x : Result (Option Partial) ReadError) (e : ReadError) (r : Option Y) (old new : Partial)
    → IsErrAnd x (λ y. y ≡ e) → ReadRejects t e r → (r ≡ None → frame_data old ≡ None) → (t ≡ false → frame_is_text old ≡ false) → Advances x old new
advance_exit t (Ok o) e r old new h f n g = absurd h
advance_exit t (Err y) e r old new h f n g =
    let P : ReadError → Type 0 = λ z. ReadRejects (frame_is_text old) z (frame_data old) in
    subst P (sym h) (rejected t (frame_is_text old) e r (frame_data old) f n g)

-- what the innermost frame gives, the frames round it make what the outermost gives
pub record Continues (outermost : Partial) (stack : List Partial) (innermost : Partial) : Type 0 where
  pub value : frame_data outermost ≡ frames_after stack (frame_data innermost)
  pub text : IsTextOf (frame_is_text outermost) innermost
  pub texts : All (IsTextOf (frame_is_text outermost)) stack

pub goes_in : (outermost inner old new : Partial) (ls : List Partial) → Continues outermost ls old → Enters inner old new → Continues outermost (ls ++ new ∷ []) inner
goes_in outermost inner old new ls h e = record {
  value = h.value ∙ ap (frames_after ls) e.value ∙ sym (after_push ls new (frame_data inner));
  text = λ n. h.text (e.inner_text n);
  texts = All-push (IsTextOf (frame_is_text outermost)) ls new h.texts (λ n. h.text (e.text n));
}

pub smaller_in : (inner old new : Partial) (ls : List Partial) → Enters inner old new → frames_size (ls ++ new ∷ []) + suc (2 * frame_size inner) < frames_size ls + suc (2 * frame_size old)
smaller_in inner old new ls e = let s = size_push ls new in let p = e.size in omega arith

pub goes_out : (outermost outer old new : Partial) (ls rest : List Partial) (d : Data) → Continues outermost ls old → frame_data old ≡ Some d → ls ≡ rest ++ outer ∷ [] → Extends d outer new
    → Continues outermost rest new
goes_out outermost outer old new ls rest d h done popped a =
    let P = IsTextOf (frame_is_text outermost) in
    let texts = All-pop P ls rest (Some outer) popped h.texts in
    record {
      value = h.value ∙ ap (frames_after ls) done ∙ ap (λ ks. frames_after ks (Some d)) popped ∙ after_push rest outer (Some d) ∙ ap (frames_after rest) a.value;
      text = λ n. texts.1 (a.text ∙ n);
      texts = texts.0;
    }

pub smaller_out : (outer old new : Partial) (ls rest : List Partial) (d : Data) → ls ≡ rest ++ outer ∷ [] → Extends d outer new
    → frames_size rest + suc (2 * frame_size new) < frames_size ls + suc (2 * frame_size old)
smaller_out outer old new ls rest d popped a =
    let s : frames_size ls ≡ frames_size rest + suc (2 * frame_size outer) = ap frames_size popped ∙ size_push rest outer in
    let same = a.size in
    omega arith

pub fails : (outermost innermost : Partial) (ls : List Partial) → Continues outermost ls innermost → frame_data innermost ≡ None → frame_data outermost ≡ None
fails outermost innermost ls h none = h.value ∙ ap (frames_after ls) none ∙ frames_none ls
