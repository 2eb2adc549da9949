-- What the functions that add a pair return.
use Rattle.std.specs.Prelude.{◌≡◌, ◌≢◌, Bool, true, false, Option, Some, None, Result, Ok, Err}
use Rattle.qs_spec.specs.Leaf.{Leaf}
use Rattle.qs_spec.specs.Tree.{Tree, Entries, item, no_items, leaf, sequence, mapping, uninitialized, no_entries}
use Rattle.qs_tree.specs.declared.build.conflict.AddError.{AddError}
use Rattle.qs_tree.specs.declared.build.conflict.AddError.TheVariants.{OutOfMemory}
use Rattle.qs_tree.specs.declared.scan.pair.Pair.{Pair}

-- nothing is expected, unless an allocation failed
abbrev pub IsRejected : {B : Type 0} → Option B → AddError → Type 0
IsRejected expected e = e ≢ OutOfMemory → expected ≡ None

-- the call returns what is expected, or an error if nothing is expected
abbrev pub AddGives : {A B : Type 0} → (A → B) → Option B → Result A AddError → Type 0
AddGives view expected (Ok a) = expected ≡ Some (view a)
AddGives view expected (Err e) = IsRejected expected e

-- the node and the pair are as they were
pub record IsKept (old new : Tree) (before after : Pair) : Type 0 where
  pub node : new ≡ old
  pub pair : after ≡ before

-- the pair was added as expected, or nothing was changed, or it is rejected
abbrev pub Adds : Option Tree → (old new : Tree) → (before after : Pair) → Result Bool AddError → Type 0
Adds expected old new before after (Ok true) = expected ≡ Some new
Adds expected old new before after (Ok false) = IsKept old new before after
Adds expected old new before after (Err e) = IsRejected expected e

-- a sequence of a node and a leaf
abbrev pub second : Tree → Leaf → Option Tree
second t l = Some (sequence (item t (item (leaf l) no_items)))

-- the entries of a map, or of an empty node
abbrev pub entries_below : Tree → Option Entries
entries_below (mapping es) = Some es
entries_below uninitialized = Some no_entries
entries_below t = None
