-- The entries of a map, as their keys and values are read.
use Rattle.std.proofs.Common.{◌≡◌, inl, ℕ, suc, ◌+◌, ◌-◌, Bool, false, List, ◌∷◌, Option, Some, None, refl, sym, ap, subst, ◌∙◌, arith}
use Rattle.std.specs.Option.{option_map, option_and_then}
use Rattle.std.specs.Prelude.{slice_get}
use Rattle.std.specs.Borrow.{Bor}
use Rattle.std.proofs.lemmas.Option.{same_Some, none-some}
use Rattle.std.proofs.lemmas.Int.{ints}
use Rattle.qs_spec.specs.Data as d
use Rattle.qs_spec.specs.Shape as s
use Rattle.qs_spec.specs.Leaf.Leaf.{NoValue, Null, Text}
use Rattle.qs_spec.specs.Node.{under_empty}
use Rattle.qs_spec.specs.Scalar.{key_data}
use Rattle.qs_spec.specs.Segment.{ParsedSegment, segment_text}
use Rattle.qs_spec.specs.Tree.{Tree, Entries}
use Rattle.qs_spec.specs.Tree.Entries.{no_entries}
use Rattle.qs_spec.specs.Tree.Tree.{leaf, sequence, mapping, uninitialized}
use Rattle.qs_spec.specs.internal.ReadFunction.{Reader, reads, read_map, read_pairs, with_front}
use Rattle.qs_tree.specs.declared.tree.value.ParsedValue.{ParsedValue}
use Rattle.qs_tree.specs.tree.Views.{entry_list, tree_of}
use Rattle.qs_serde.specs.Lookups.{LooksUp}
use Rattle.qs_serde.specs.Nodes.{key_tree, pairs_in}
use Rattle.qs_serde.specs.Places.{count_of, is_tried_part, part_tree, part_view, scalar_at, scalar_of, tree_at, value_part}
use Rattle.qs_serde.specs.Runs.{IsLevel, IsReady, KeyRun}
use Rattle.qs_serde.specs.Runs.KeyRun.{boolean_key, unsigned_key, signed_key, character_key, text_key, variant_key}
use Rattle.qs_serde.specs.Steps.{HasParts, IsPlain, Moves, node_at_part, part_after}
use Rattle.qs_serde.specs.Tries.{tried_at_name}
use Rattle.qs_serde.specs.declared.reading.frame.FrameKind.TheVariants as k
use Rattle.qs_serde.specs.declared.reading.node.Part.{Part}
use Rattle.qs_serde.specs.declared.reading.node.Part.TheVariants as p
use Rattle.qs_serde.specs.declared.reading.format.TreeFormat.{TreeFormat}
use Rattle.qs_serde.proofs.ReadNumbers.{signed_of, unsigned_of}
use Rattle.qs_serde.proofs.RunLevels.{name_untried, AfterItem, counted_some, taken}
use Rattle.qs_serde.proofs.RunFields.{after, after_some, entry_due}
use Rattle.qs_serde.proofs.RunEnums.{named_key}

-- the entries that a map reads
abbrev pub map_entries : Tree → Entries
map_entries (leaf (Text b m)) = under_empty (leaf (Text b m))
map_entries (mapping es) = es
map_entries _ = no_entries

pub pairs_of_map : (t : Tree) → HasParts k.Map t → pairs_in t ≡ entry_list (map_entries t)
pairs_of_map (leaf NoValue) h = refl
pairs_of_map (leaf Null) h = refl
pairs_of_map (leaf (Text b m)) h = refl
pairs_of_map (sequence xs) h = refl
pairs_of_map (mapping es) h = refl
pairs_of_map uninitialized h = refl

map_of : (key : s.KeyShape) (r : Reader) (t : Tree) → HasParts k.Map t → read_map key r t ≡ read_pairs key r (map_entries t)
unfolding read_map
map_of key r (leaf NoValue) h = refl
map_of key r (leaf Null) h = refl
map_of key r (leaf (Text b m)) h = refl
map_of key r (sequence xs) h = absurd cc
map_of key r (mapping es) h = refl
map_of key r uninitialized h = absurd cc

pub map_here : (key : s.KeyShape) (r : Reader) (q : Part) (node top : Tree) (at : ℕ) → (q ≡ p.NoValue → node ≡ leaf Null) → is_tried_part q ≡ false → HasParts k.Map node → node_at_part q node ≡ Some node
    → read_map key r (part_tree q node top at) ≡ read_pairs key r (map_entries node)
unfolding read_map
map_here key r p.Value node top at null t has is = map_of key r node has
map_here key r p.Held node top at null t has is = map_of key r node has
map_here key r p.NoValue node top at null t has is = ap (λ t. read_pairs key r (map_entries t)) (sym (null refl))
map_here key r p.Key node top at null t has is = absurd (none-some node is)
map_here key r p.Whole node top at null t has is = absurd cc
map_here key r p.Nothing node top at null t has is = absurd cc

-- a key was read, and its value is next
abbrev pub IsNext : TreeFormat → TreeFormat → Type 0
IsNext come next = (next.part ≡ p.Value) × (next.node ≡ come.node) × IsLevel come next

value_after : (b : Bool) (q : Part) → q ≡ p.Key → b ≡ false → part_after b q ≡ p.Value
value_after b q is tried = ap (part_after b) is ∙ ap value_part tried

pub key_next : (key : s.KeyShape) (come : TreeFormat) (x : d.Data) (next : TreeFormat) → KeyRun key come x next → come.part ≡ p.Key → come.is_tried ≡ false → IsNext come next
key_next key come x next (boolean_key h) is tried = subst (IsNext come) (sym h.0) (value_after come.is_tried come.part is tried, refl, taken come _ refl refl refl refl (λ d. d))
key_next key come x next (unsigned_key h lt) is tried = subst (IsNext come) (sym h.0) (value_after come.is_tried come.part is tried, refl, taken come _ refl refl refl refl (λ d. d))
key_next key come x next (signed_key h low high) is tried = subst (IsNext come) (sym h.0) (value_after come.is_tried come.part is tried, refl, taken come _ refl refl refl refl (λ d. d))
key_next key come x next (character_key h) is tried = subst (IsNext come) (sym h.0) (value_after come.is_tried come.part is tried, refl, taken come _ refl refl refl refl (λ d. d))
key_next key come x next (text_key h) is tried = subst (IsNext come) (sym h.0) (value_after come.is_tried come.part is tried, refl, taken come _ refl refl refl refl (λ d. d))
key_next key come x next (variant_key names at h named this) is tried = subst (IsNext come) (sym h.1) (value_after (tried_at_name come) come.part is (name_untried come tried), refl, taken come _ refl refl refl refl (λ d. (d.0, name_untried come d.1)))

-- what was read of it is what its text is read as
by_key : (rd : Bool) (a : s.Shape) (come : TreeFormat) (x : d.Data) (t : List ℕ) → reads come.reader.reject_duplicates a (scalar_at come) ≡ Some x → come.reader.reject_duplicates ≡ rd → come.part ≡ p.Key → tree_at come ≡ leaf (Text t false)
    → reads rd a (leaf (Text t false)) ≡ Some x
by_key rd a come x t h e part is = subst (λ q. reads q a (leaf (Text t false)) ≡ Some x) e (subst (λ u. reads come.reader.reject_duplicates a u ≡ Some x) (ap (λ q. scalar_of q (tree_at come)) part ∙ is) h)

pub key_read : (rd : Bool) (key : s.KeyShape) (come : TreeFormat) (x : d.Data) (next : TreeFormat) (t : List ℕ) → KeyRun key come x next → come.reader.reject_duplicates ≡ rd → IsPlain come → come.part ≡ p.Key
    → tree_at come ≡ leaf (Text t false) → key_data key t ≡ Some x
unfolding reads
key_read rd key come x next t (boolean_key h) e plain part is = by_key rd s.Shape.boolean come x t h.1 e part is
key_read rd key come x next t (unsigned_key {bits = bits} {m = m} h lt) e plain part is =
    by_key rd (s.Shape.unsigned bits) come x t (unsigned_of come.reader.reject_duplicates 128 bits (scalar_at come) m (λ _. omega (arith, lt)) (h.1 plain)) e part is
key_read rd key come x next t (signed_key {bits = bits} {z = z} h low high) e plain part is =
    by_key rd (s.Shape.signed bits) come x t (signed_of come.reader.reject_duplicates 128 bits (scalar_at come) z (λ n same _. omega (arith, ints)) (λ n same _. omega (arith, ints)) (h.1 plain)) e part is
key_read rd key come x next t (character_key h) e plain part is = by_key rd s.Shape.character come x t h.1 e part is
key_read rd key come x next t (text_key h) e plain part is = by_key rd s.Shape.text come x t h.1 e part is
key_read rd key come x next t (variant_key names at {keys = keys} {key = name} h named this) e plain part is =
    named_key names keys t false at name named (subst (λ u. LooksUp u names at) (ap (λ q. scalar_of q (tree_at come)) part ∙ is) h.0) this

-- where its value is
pub value_ready : (old come next : TreeFormat) → Moves (count_of old) old come → IsNext come next → next.is_tried ≡ false → IsReady next
value_ready old come next moves h tried = record {
  part = λ e. absurd (let n : p.Value ≡ p.NoValue = sym h.0 ∙ e in cc);
  whole = ap is_tried_part h.0;
  tried = tried;
  outer = inl (h.2.open_as.1 (counted_some come.frame (count_of old) moves.count));
}

pub value_tree : (come next : TreeFormat) → IsNext come next → tree_at next ≡ tree_of come.node.now
value_tree come next h = ap (λ q. part_view next q) h.0 ∙ ap (λ (v : Bor ParsedValue). tree_of v.now) h.1

pub levels : (come next read : TreeFormat) → IsLevel come next → IsLevel next read → IsLevel come read
levels come next read a b = record {
  opened = b.opened ∙ a.opened;
  open_as = (λ h. a.open_as.0 (b.open_as.0 h), λ h. b.open_as.1 (a.open_as.1 h));
  reader = b.reader ∙ a.reader;
  direct = λ h. b.direct (a.direct h);
}

-- the key that is next is the due entry's
pub key_at : (old come : TreeFormat) → Moves (count_of old) old come → come.part ≡ p.Key → tree_at come ≡ key_tree (entry_due old)
key_at old come moves part =
    let came = moves.count in
    let one : count_of come - 1 ≡ count_of old = omega (arith, came) in
    ap (λ q. part_view come q) part ∙ ap (λ n. key_tree (slice_get (pairs_in (tree_of come.top.now)) n)) one
    ∙ ap (λ (v : Bor ParsedValue). key_tree (slice_get (pairs_in (tree_of v.now)) (count_of old))) moves.top

-- an entry and the others
pub pair_more : (rd : Bool) (key : s.KeyShape) (r : Reader) (es : Entries) (n : ℕ) (come : TreeFormat) (x y : d.Data) (rest : List (d.Data × d.Data)) (o : Option (ParsedSegment × Tree)) → slice_get (entry_list es) n ≡ o
    → tree_at come ≡ key_tree o → option_map (λ e. e.1) o ≡ Some (tree_of come.node.now) → ((t : List ℕ) → tree_at come ≡ leaf (Text t false) → key_data key t ≡ Some x) → r (tree_of come.node.now) ≡ Some y
    → read_pairs key r (after (suc n) es) ≡ Some rest → read_pairs key r (after n es) ≡ Some ((x, y) ∷ rest)
pair_more rd key r es n come x y rest None is at value by_text got others = absurd (none-some _ value)
pair_more rd key r es n come x y rest (Some e) is at value by_text got others =
    ap (read_pairs key r) (after_some n es e is)
    ∙ ap (λ o. option_and_then (λ a. option_and_then (λ v. with_front (a, v) (read_pairs key r (after (suc n) es))) (r e.1)) o) (by_text (segment_text e.0.segment) at)
    ∙ ap (λ o. option_and_then (λ v. with_front (x, v) (read_pairs key r (after (suc n) es))) o) (ap r (same_Some _ _ value) ∙ got)
    ∙ ap (λ o. with_front (x, y) o) others

pub after_read : (key : s.KeyShape) (r : Reader) (rest : List (d.Data × d.Data)) (old read : TreeFormat) (es : Entries) → AfterItem old read → read_pairs key r (after (count_of read) es) ≡ Some rest
    → read_pairs key r (after (suc (count_of old)) es) ≡ Some rest
after_read key r rest old read es a h = let one : count_of old + 1 ≡ suc (count_of old) = omega arith in subst (λ n. read_pairs key r (after n es) ≡ Some rest) (a.count ∙ one) h
