-- What a tree holds: its leaves, the depth of its maps, and what is true of the tree of any input.
use Rattle.std.specs.Prelude.{◌≢◌, ℕ, suc, ◌+◌, max, [], ◌∷◌, ⊤}
use Rattle.qs_spec.specs.Segment.{Segment}
use Rattle.qs_spec.specs.Segment.Segment.{Int, Str}
use Rattle.qs_spec.specs.Tree.{Tree, Items, Entries}
use Rattle.qs_spec.specs.Tree.Tree.{leaf, sequence, mapping, uninitialized}
use Rattle.qs_spec.specs.Tree.Items.{no_items, item}
use Rattle.qs_spec.specs.Tree.Entries.{no_entries, entry}

-- how many leaves a tree has
abbrev mutual
  pub leaf_count : Tree → ℕ
  leaf_count (leaf l) = 1
  leaf_count (sequence xs) = items_leaf_count xs
  leaf_count (mapping es) = entries_leaf_count es
  leaf_count uninitialized = 0

  pub items_leaf_count : Items → ℕ
  items_leaf_count no_items = 0
  items_leaf_count (item t xs) = leaf_count t + items_leaf_count xs

  pub entries_leaf_count : Entries → ℕ
  entries_leaf_count no_entries = 0
  entries_leaf_count (entry k escaped t es) = leaf_count t + entries_leaf_count es

-- how deep maps are nested
abbrev mutual
  pub nesting : Tree → ℕ
  nesting (leaf l) = 0
  nesting (sequence xs) = items_nesting xs
  nesting (mapping es) = suc (entries_nesting es)
  nesting uninitialized = 0

  pub items_nesting : Items → ℕ
  items_nesting no_items = 0
  items_nesting (item t xs) = max (nesting t) (items_nesting xs)

  pub entries_nesting : Entries → ℕ
  entries_nesting no_entries = 0
  entries_nesting (entry k escaped t es) = max (nesting t) (entries_nesting es)

-- the tree is a leaf, and each item is one
abbrev pub IsLeaf : Tree → Type 0
IsLeaf (leaf l) = ⊤
IsLeaf (sequence xs) = ⊥
IsLeaf (mapping es) = ⊥
IsLeaf uninitialized = ⊥

abbrev pub AreLeaves : Items → Type 0
AreLeaves no_items = ⊤
AreLeaves (item t xs) = IsLeaf t × AreLeaves xs

-- a leaf or a sequence
abbrev pub IsLow : Tree → Type 0
IsLow (leaf l) = ⊤
IsLow (sequence xs) = ⊤
IsLow (mapping es) = ⊥
IsLow uninitialized = ⊥

-- the value of the empty key is such a node; the value of another key may be any node
abbrev pub IsLowAtEmpty : Segment → Tree → Type 0
IsLowAtEmpty (Int n) t = ⊤
IsLowAtEmpty (Str []) t = IsLow t
IsLowAtEmpty (Str (b ∷ bytes)) t = ⊤

-- Sequences aren't empty and hold only leaves, maps aren't empty, and the value of the empty key is a leaf or a sequence.
abbrev mutual
  pub IsSound : Tree → Type 0
  IsSound (leaf l) = ⊤
  IsSound (sequence xs) = (xs ≢ no_items) × AreLeaves xs
  IsSound (mapping es) = (es ≢ no_entries) × AreSound es
  IsSound uninitialized = ⊤

  pub AreSound : Entries → Type 0
  AreSound no_entries = ⊤
  AreSound (entry k escaped t es) = IsLowAtEmpty k t × IsSound t × AreSound es
