-- A value of the code, level by level, beside the tree that it is.
use Rattle.qs_tree.proofs.Common.{◌≡◌, List, [], ◌∷◌, ◌++◌, Vec, Global, ℕ, true, false, None, refl, ap, ◌∙◌, rules, CowSlice, Borrowed, Owned, Leaf, Tree, leaf, sequence, mapping, uninitialized, add_to_leaves, add_here, push_item, ParsedValue, Map, Sequence, Null, NoValue, Uninitialized, the_lemmas, ParsedMap, MapBuilder, built_tree, built_entries, fresh, second, entries_below, unsorted_entries, tree_of, entries_of_map, items_of}
use Rattle.qs_spec.specs.Leaf.Leaf.{Text, Null as leaf_null, NoValue as leaf_none}
use Rattle.qs_spec.specs.Tree.Items.{item}
use Rattle.qs_tree.specs.declared.tree.value.ParsedValue.{String}
use Rattle.qs_tree.specs.declared.build.builder.MapBuilder.{the_lemmas as builder_lemmas}
use Rattle.qs_tree.specs.declared.build.builder.TreeBuilder.TheVariants as builder
use Rattle.qs_tree.specs.declared.build.unsorted.Unsorted.{Unsorted}

pub tree_of-Uninitialized : tree_of Uninitialized ≡ uninitialized
tree_of-Uninitialized = search (rules, the_lemmas)

pub tree_of-Sequence : (v : Vec ParsedValue Global) → tree_of (Sequence v) ≡ sequence (items_of v.items)
tree_of-Sequence v = search (rules, the_lemmas)

pub tree_of-Map : (m : ParsedMap) → tree_of (Map m) ≡ mapping (entries_of_map m)
tree_of-Map m = search (rules, the_lemmas)

pub items_of-push : (vs : List ParsedValue) (v : ParsedValue) → items_of (vs ++ v ∷ []) ≡ push_item (items_of vs) (tree_of v)
items_of-push [] v = refl
items_of-push (x ∷ vs) v = ap (item (tree_of x)) (items_of-push vs v)

-- an assigned leaf is added to a leaf
pub second-String : (s : CowSlice ℕ Global) (l : Leaf) → add_to_leaves false l (tree_of (String s)) ≡ second (tree_of (String s)) l
second-String (Borrowed r) l = let is : tree_of (String (Borrowed r)) ≡ leaf (Text r.now false) = search (rules, the_lemmas) in rw is
second-String (Owned v) l = let is : tree_of (String (Owned v)) ≡ leaf (Text v.items true) = search (rules, the_lemmas) in rw is

pub second-Null : (l : Leaf) → add_to_leaves false l (tree_of Null) ≡ second (tree_of Null) l
second-Null l = let is : tree_of Null ≡ leaf leaf_null = search (rules, the_lemmas) in rw is

pub second-NoValue : (l : Leaf) → add_to_leaves false l (tree_of NoValue) ≡ second (tree_of NoValue) l
second-NoValue l = let is : tree_of NoValue ≡ leaf leaf_none = search (rules, the_lemmas) in rw is

-- at a leaf as at any other node that is no map
pub here-String : (s : CowSlice ℕ Global) (l : Leaf) → add_here false l (tree_of (String s)) ≡ add_to_leaves false l (tree_of (String s))
here-String (Borrowed r) l = let is : tree_of (String (Borrowed r)) ≡ leaf (Text r.now false) = search (rules, the_lemmas) in rw is
here-String (Owned v) l = let is : tree_of (String (Owned v)) ≡ leaf (Text v.items true) = search (rules, the_lemmas) in rw is

-- a leaf and a sequence have no entries
pub below-String : (s : CowSlice ℕ Global) → entries_below (tree_of (String s)) ≡ None
below-String (Borrowed r) = let is : tree_of (String (Borrowed r)) ≡ leaf (Text r.now false) = search (rules, the_lemmas) in rw is
below-String (Owned v) = let is : tree_of (String (Owned v)) ≡ leaf (Text v.items true) = search (rules, the_lemmas) in rw is

pub below-Null : entries_below (tree_of Null) ≡ None
below-Null = let is : tree_of Null ≡ leaf leaf_null = search (rules, the_lemmas) in rw is

pub below-NoValue : entries_below (tree_of NoValue) ≡ None
below-NoValue = let is : tree_of NoValue ≡ leaf leaf_none = search (rules, the_lemmas) in rw is

pub below-Sequence : (v : Vec ParsedValue Global) → entries_below (tree_of (Sequence v)) ≡ None
below-Sequence v = rw (tree_of-Sequence v)

pub here-push : (l : Leaf) (t : Tree) → add_here true l t ≡ add_to_leaves true l t
here-push l (leaf o) = refl
here-push l t = refl

pub built_tree-Value : (v : ParsedValue) → built_tree (builder.Value v) ≡ tree_of v
built_tree-Value v = search (rules, builder_lemmas)

pub built_tree-fresh : built_tree fresh ≡ uninitialized
built_tree-fresh = built_tree-Value Uninitialized ∙ tree_of-Uninitialized

pub built_tree-Map : (m : MapBuilder) → built_tree (builder.Map m) ≡ mapping (built_entries m)
built_tree-Map m = search (rules, builder_lemmas)

pub built_tree-Unsorted : (u : Unsorted) → built_tree (builder.Unsorted u) ≡ mapping (unsorted_entries u)
built_tree-Unsorted u = search (rules, builder_lemmas)

pub ruleset views = (tree_of-Uninitialized, tree_of-Sequence, tree_of-Map, items_of-push, built_tree-Value, built_tree-Map, built_tree-Unsorted, second-String, second-Null, second-NoValue, here-String, below-String, below-Null, below-NoValue, below-Sequence, here-push)
