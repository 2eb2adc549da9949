-- When pairs and trees of this notation hold the names and values that the URL Standard's parser returns.
use Rattle.std.specs.Prelude.{◌≡◌, ℕ, Bool, false, not, List, [], ◌∷◌, IsTrue, IsFalse, IsPermutation, if◌then◌else◌, ⊤}
use Rattle.std.specs.List.{AllByRecursion}
use Rattle.qs_spec.specs.Segment.{Segment, ParsedSegment, number, is_index, is_same_segment}
use Rattle.qs_spec.specs.Segment.Segment.{Int, Str}
use Rattle.qs_spec.specs.Leaf.{leaf_text}
use Rattle.qs_spec.specs.Grammar.{Pair}
use Rattle.qs_spec.specs.Tree.{Tree, Entries}
use Rattle.qs_spec.specs.Tree.Tree.{leaf, sequence, mapping, uninitialized}
use Rattle.qs_spec.specs.Tree.Entries.{entry, no_entries}
use Rattle.qs_standards.specs.FormUrlencoded.{NameValue, isnt_empty}

-- A key has a name: for an integer key any digits of that number, for a string key its bytes.
abbrev pub HasName : List ℕ → Segment → Type 0
HasName name (Int n) = IsTrue (is_index name) × (number name ≡ n)
HasName name (Str bytes) = name ≡ bytes

-- a path of one key, or the empty path for the empty name
abbrev pub IsNamePath : List ℕ → List ParsedSegment → Type 0
IsNamePath name [] = name ≡ []
IsNamePath name (s ∷ []) = HasName name s.segment
IsNamePath name (s ∷ t ∷ path) = ⊥

-- a pair has a name and a value; no value and null count as the empty value
pub record IsNamed (n : NameValue) (p : Pair) : Type 0 where
  pub assigned : IsFalse p.push
  pub name : IsNamePath n.name p.path
  pub value : n.value ≡ leaf_text p.leaf

-- one after another
abbrev pub AreNamed : List NameValue → List Pair → Type 0
AreNamed [] [] = ⊤
AreNamed (n ∷ ns) (p ∷ ps) = IsNamed n p × AreNamed ns ps
AreNamed _ _ = ⊥

-- a name as a key
abbrev pub key_of : List ℕ → Segment
key_of name = if is_index name then Int (number name) else Str name

-- no two names are the same key
abbrev pub AreDistinct : List NameValue → Type 0
AreDistinct [] = ⊤
AreDistinct (n ∷ ns) = AllByRecursion (λ m. IsFalse (is_same_segment (key_of n.name) (key_of m.name))) ns × AreDistinct ns

-- a leaf of this value
abbrev pub IsValueLeaf : List ℕ → Tree → Type 0
IsValueLeaf value (leaf l) = value ≡ leaf_text l
IsValueLeaf value _ = ⊥

-- the entries of a map, one after another
abbrev pub AreEntries : List NameValue → Entries → Type 0
AreEntries [] no_entries = ⊤
AreEntries (n ∷ ns) (entry k escaped t es) = HasName n.name k × IsValueLeaf n.value t × AreEntries ns es
AreEntries _ _ = ⊥

-- The tree holds these names and values and nothing else: a map in the order of its keys, or a leaf if the empty name is the only one.
abbrev pub HoldsNamed : List NameValue → Tree → Type 0
HoldsNamed ns (leaf l) = ns ≡ record { name = []; value = leaf_text l } ∷ []
HoldsNamed ns (mapping es) = (sorted : List NameValue) × IsPermutation ns sorted × AreEntries sorted es
HoldsNamed ns (sequence xs) = ⊥
HoldsNamed ns uninitialized = ns ≡ []

-- the empty name is the first of several
abbrev pub begins_empty : List NameValue → Bool
begins_empty (n ∷ m ∷ ns) = not (isnt_empty n.name)
begins_empty _ = false
