-- From the types of a pair to the types of the definitions.
use Rattle.std.specs.Prelude.{◌≡◌, [], List, Bool, true, false, map, Option, Some, None}
use Rattle.std.specs.declared.borrow.CowSlice.TheVariants.{Borrowed, Owned}
use Rattle.qs_spec.specs.Segment.{ParsedSegment}
use Rattle.qs_spec.specs.Leaf.{Leaf, NoValue, Null, Text}
use Rattle.qs_spec.specs.Grammar as grammar
use Rattle.qs_spec.specs.Tree.{Tree, leaf}
use Rattle.qs_tree.specs.declared.tree.key.Key.{Key}
use Rattle.qs_tree.specs.declared.scan.pair.Leaf as code
use Rattle.qs_tree.specs.declared.scan.pair.Leaf.TheVariants as variant
use Rattle.qs_tree.specs.declared.scan.pair.Manner.{Manner}
use Rattle.qs_tree.specs.declared.scan.pair.Manner.TheVariants.{Assign, Push}
use Rattle.qs_tree.specs.declared.scan.pair.Pair.{Pair}
use Rattle.qs_tree.specs.tree.Views.{parsed_segment_of_key}

-- an owned string is escaped
abbrev pub leaf_of : code.Leaf → Leaf
leaf_of variant.NoValue = NoValue
leaf_of variant.Null = Null
leaf_of (variant.Text (Borrowed r)) = Text r.now false
leaf_of (variant.Text (Owned v)) = Text v.items true

-- a node as a leaf
abbrev pub leaf_in : Tree → Option Leaf
leaf_in (leaf l) = Some l
leaf_in t = None

abbrev pub is_push : Manner → Bool
is_push Assign = false
is_push Push = true

abbrev pub path_of : List Key → List ParsedSegment
path_of keys = map parsed_segment_of_key keys

abbrev pub pair_of : Pair → grammar.Pair
pair_of p = record { path = path_of p.path; push = is_push p.manner; leaf = leaf_of p.leaf }

-- an assigned pair at the empty path
abbrev pub IsRootValue : Pair → Type 0
IsRootValue p = (p.path ≡ []) × (p.manner ≡ Assign)
