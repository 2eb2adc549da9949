-- The entries of a node as the values of a map.
use Rattle.std.proofs.Common.{◌≡◌, ℕ, zero, suc, ◌+◌, ◌≤◌, ◌&&◌, length, Bool, true, false, cond, List, Option, Some, None, refl, sym, ap, ◌∙◌, arith}
use Rattle.std.specs.Prelude.{if◌then◌else◌}
use Rattle.std.specs.Option.{option_map, option_and_then}
use Rattle.std.specs.Str.{is_utf8}
use Rattle.qs_spec.specs.Data as d
use Rattle.qs_spec.specs.Data.{Data, pairs_of}
use Rattle.qs_spec.specs.Shape as s
use Rattle.qs_spec.specs.Shape.{Shape}
use Rattle.qs_spec.specs.Segment.{segment_text}
use Rattle.qs_spec.specs.Leaf.Leaf.{NoValue, Null, Text}
use Rattle.qs_spec.specs.Tree.{Tree, Entries}
use Rattle.qs_spec.specs.Tree.Tree.{leaf, sequence, mapping, uninitialized}
use Rattle.qs_spec.specs.Tree.Entries.{no_entries, entry}
use Rattle.qs_spec.specs.Node.{under_empty}
use Rattle.qs_spec.specs.internal.ReadFunction.{Reader, read_map, read_pairs, reads, with_front}
use Rattle.qs_tree.specs.tree.Views.{entry_list}
use Rattle.qs_data.specs.read.Entries.{entries_after, first_entry, node_entries}
use Rattle.qs_data.specs.read.TreeText.{entries_are_text, is_text}
use Rattle.qs_data.proofs.lemmas.read.Errors.{and_left, and_right}
use Rattle.serde_qs.specs.Maps.{mapping_in, nowhere, pairs_onto, with_value}
use Rattle.serde_qs.specs.internal.NodeEntries.{entries_onto}

module _ {V : Type 0} (m : Data → Option V) (r : Reader) where
  abbrev Values : Type 0
  Values = List ℕ → Option V

  abbrev value_at : Tree → Option V
  value_at t = option_and_then m (r t)

  -- values and those of the pairs that were read
  abbrev onto : Values → Option (List (Data × Data)) → Option Values
  onto f read = option_and_then (λ ps. pairs_onto m f (pairs_of ps)) read

  some_pairs : (f : Values) (k : List ℕ) (ps : List (Data × Data)) (o : Option V) (more : V → Option Values) → ((v : V) → pairs_onto m (with_value k v f) (pairs_of ps) ≡ more v)
      → option_and_then (λ g. pairs_onto m g (pairs_of ps)) (option_map (λ v. with_value k v f) o) ≡ option_and_then more o
  some_pairs f k ps None more h = refl
  some_pairs f k ps (Some v) more h = h v

  no_pairs : (o : Option V) (more : V → Option Values) → ((v : V) → None ≡ more v) → None ≡ option_and_then more o
  no_pairs None more h = refl
  no_pairs (Some v) more h = h v

  one_more : (f : Values) (k : List ℕ) (x : Option Data) (rest : Option (List (Data × Data))) (more : V → Option Values) → ((v : V) → onto (with_value k v f) rest ≡ more v)
      → onto f (option_and_then (λ e. with_front (d.text k, e) rest) x) ≡ option_and_then more (option_and_then m x)
  one_more f k None rest more h = refl
  one_more f k (Some e) (Some ps) more h = some_pairs f k ps (m e) more h
  one_more f k (Some e) None more h = no_pairs (m e) more h

  tested : (b : Bool) (f : Values) (k : List ℕ) (x : Option Data) (rest : Option (List (Data × Data))) (more : V → Option Values) → ((v : V) → onto (with_value k v f) rest ≡ more v)
      → onto f (option_and_then (λ a. option_and_then (λ e. with_front (a, e) rest) x) (if b then Some (d.text k) else None)) ≡ cond b (option_and_then more (option_and_then m x)) None
  tested true f k x rest more h = one_more f k x rest more h
  tested false f k x rest more h = refl

  pairs_meant : (es : Entries) (f : Values) → onto f (read_pairs s.KeyShape.text r es) ≡ entries_onto value_at f es
  pairs_meant no_entries f = refl
  pairs_meant (entry k escaped t es) f =
      tested (is_utf8 (segment_text k)) f (segment_text k) (r t) (read_pairs s.KeyShape.text r es) (λ v. entries_onto value_at (with_value (segment_text k) v f) es)
      (λ v. pairs_meant es (with_value (segment_text k) v f))

  in_mapping : (o : Option (List (Data × Data))) → option_and_then (mapping_in m) (option_map (λ ps. d.mapping (pairs_of ps)) o) ≡ onto nowhere o
  in_mapping None = refl
  in_mapping (Some ps) = refl

  pub map_meant : (t : Tree) → onto nowhere (read_map s.KeyShape.text r t) ≡ option_and_then (entries_onto value_at nowhere) (node_entries t)
  unfolding read_map
  map_meant (leaf NoValue) = refl
  map_meant (leaf Null) = refl
  map_meant (leaf (Text bytes escaped)) = pairs_meant (under_empty (leaf (Text bytes escaped))) nowhere
  map_meant (sequence xs) = refl
  map_meant (mapping es) = pairs_meant es nowhere
  map_meant uninitialized = refl

pub mapping_read : {V : Type 0} (m : Data → Option V) (reject_duplicates : Bool) (shape : Shape) (t : Tree)
    → option_and_then (mapping_in m) (reads reject_duplicates (s.Shape.mapping s.KeyShape.text shape) t) ≡ option_and_then (entries_onto (λ n. option_and_then m (reads reject_duplicates shape n)) nowhere) (node_entries t)
unfolding reads
mapping_read m reject_duplicates shape t = in_mapping m (reads reject_duplicates shape) (read_map s.KeyShape.text (reads reject_duplicates shape) t) ∙ map_meant m (reads reject_duplicates shape) t

-- one more entry

given_key : {A : Type 0} (b : Bool) (k key : List ℕ) (t n : Tree) (x : A) (y : A) → cond {A = Option (Option (List ℕ × Tree))} b (Some (Some (k, t))) None ≡ Some (Some (key, n)) → cond b x y ≡ x
given_key true k key t n x y h = refl
given_key false k key t n x y h = absurd cc

abbrev key_or : List ℕ → Option (Option (List ℕ × Tree)) → List ℕ
key_or k None = k
key_or k (Some None) = k
key_or k (Some (Some x)) = x.0

abbrev node_or : Tree → Option (Option (List ℕ × Tree)) → Tree
node_or t None = t
node_or t (Some None) = t
node_or t (Some (Some x)) = x.1

same_key : (b : Bool) (k key : List ℕ) (t n : Tree) → cond {A = Option (Option (List ℕ × Tree))} b (Some (Some (k, t))) None ≡ Some (Some (key, n)) → k ≡ key
same_key true k key t n h = ap (key_or k) h
same_key false k key t n h = absurd cc

same_node : (b : Bool) (k key : List ℕ) (t n : Tree) → cond {A = Option (Option (List ℕ × Tree))} b (Some (Some (k, t))) None ≡ Some (Some (key, n)) → t ≡ n
same_node true k key t n h = ap (node_or t) h
same_node false k key t n h = absurd cc

no_key : {A : Type 0} (b : Bool) (k : List ℕ) (t : Tree) (x : Option A) → cond {A = Option (Option (List ℕ × Tree))} b (Some (Some (k, t))) None ≡ None → cond b x None ≡ None
no_key true k t x h = absurd cc
no_key false k t x h = refl

one_key : (b : Bool) (k : List ℕ) (t : Tree) → cond {A = Option (Option (List ℕ × Tree))} b (Some (Some (k, t))) None ≡ Some None → ⊥
one_key true k t h = absurd cc
one_key false k t h = absurd cc

step : (i : ℕ) → suc i + 1 ≡ suc (i + 1)
step i = omega arith

pub node_bad : (i : ℕ) (es : Entries) (key : List ℕ) (n : Tree) → first_entry (entries_after i es) ≡ Some (Some (key, n)) → is_text n ≡ false → entries_are_text es ≡ false
node_bad zero no_entries key n h bad = absurd cc
node_bad zero (entry k escaped t es) key n h bad =
    let here : is_text t ≡ false = ap is_text (same_node (is_utf8 (segment_text k)) (segment_text k) key t n h) ∙ bad in
    and_left (is_utf8 (segment_text k) && is_text t) (entries_are_text es) (and_right (is_utf8 (segment_text k)) (is_text t) here)
node_bad (suc i) no_entries key n h bad = absurd cc
node_bad (suc i) (entry k escaped t es) key n h bad = and_right (is_utf8 (segment_text k) && is_text t) (entries_are_text es) (node_bad i es key n h bad)

module _ {V : Type 0} (r : Tree → Option V) where
  pub entry_more : (i : ℕ) (es : Entries) (f : List ℕ → Option V) (key : List ℕ) (n : Tree) → first_entry (entries_after i es) ≡ Some (Some (key, n))
      → entries_onto r f (entries_after i es) ≡ option_and_then (λ v. entries_onto r (with_value key v f) (entries_after (i + 1) es)) (r n)
  entry_more zero no_entries f key n h = absurd cc
  entry_more zero (entry k escaped t es) f key n h =
      let b = is_utf8 (segment_text k) in
      let x : (List ℕ → Tree → Option (List ℕ → Option V)) = λ q u. option_and_then (λ v. entries_onto r (with_value q v f) es) (r u) in
      given_key b (segment_text k) key t n (x (segment_text k) t) None h
      ∙ ap (λ q. x q t) (same_key b (segment_text k) key t n h)
      ∙ ap (x key) (same_node b (segment_text k) key t n h)
  entry_more (suc i) no_entries f key n h = absurd cc
  entry_more (suc i) (entry k escaped t es) f key n h =
      entry_more i es f key n h ∙ ap (λ j. option_and_then (λ v. entries_onto r (with_value key v f) (entries_after j (entry k escaped t es))) (r n)) (sym (step i))

  pub entry_rejected : (es : Entries) (f : List ℕ → Option V) → first_entry es ≡ None → entries_onto r f es ≡ None
  entry_rejected no_entries f h = absurd cc
  entry_rejected (entry k escaped t es) f h = no_key (is_utf8 (segment_text k)) (segment_text k) t _ h

  pub entry_end : (es : Entries) (f : List ℕ → Option V) → first_entry es ≡ Some None → entries_onto r f es ≡ Some f
  entry_end no_entries f h = refl
  entry_end (entry k escaped t es) f h = absurd (one_key (is_utf8 (segment_text k)) (segment_text k) t h)

  pub entry_all : (i : ℕ) (es : Entries) (f : List ℕ → Option V) → length (entry_list es) ≤ i → entries_onto r f (entries_after i es) ≡ Some f
  entry_all zero no_entries f h = refl
  entry_all zero (entry k escaped t es) f h = absurd (omega arith)
  entry_all (suc i) no_entries f h = refl
  entry_all (suc i) (entry k escaped t es) f h = entry_all i es f (omega arith)
