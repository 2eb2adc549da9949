-- What a plain function reads from an input is what is read.
use Rattle.std.proofs.Common.{◌≡◌, ℕ, false, true, List, Option, Some, None, refl}
use Rattle.std.specs.Option.{option_map}
use Rattle.std.proofs.lemmas.Option.{none-some, same_Some}
use Rattle.qs_spec.specs.Config.{Config, are_rejected}
use Rattle.qs_spec.specs.Shape.{Shape, is_distinct}
use Rattle.qs_spec.specs.Data.{Data}
use Rattle.qs_spec.specs.Tree.{Tree}
use Rattle.qs_spec.specs.internal.ReadFunction.{read_by}
use Rattle.qs_spec.specs.Worked.{ReadsOrNothing, IsRead, IsWritten, IsTreeOrNone, IsUnstable}
use Rattle.qs_spec.specs.Stable.{is_stable}
use Rattle.qs_spec.proofs.TreeOf.{tree_of, is_tree, no_tree}
use Rattle.qs_spec.proofs.ReadingIsRelation.{related, none_related}

reads_or_nothing : (config : Config) (shape : Shape) (tree : Tree) (answer : Option Data) → is_distinct shape ≡ true → read_by config shape tree ≡ answer → ReadsOrNothing config shape tree answer
reads_or_nothing config shape tree None dist e = (none_related (are_rejected config.duplicates) shape tree dist).1 e
reads_or_nothing config shape tree (Some d) dist e = related (are_rejected config.duplicates) shape tree d e

pub is_read : (config : Config) (shape : Shape) (input : List ℕ) (answer : Option Data) → option_map (read_by config shape) (tree_of config.is_form config.max_depth input) ≡ Some answer → is_distinct shape ≡ true → IsRead config shape input answer
is_read config shape input answer e dist = by (tree_of config.is_form config.max_depth input) refl e
  where
    by : (o : Option Tree) → tree_of config.is_form config.max_depth input ≡ o → option_map (read_by config shape) o ≡ Some answer → IsRead config shape input answer
    by None d e = absurd (none-some answer e)
    by (Some t) d e = record { tree = t; is_tree = is_tree config.is_form config.max_depth input t d; reads = reads_or_nothing config shape t answer dist (same_Some (read_by config shape t) answer e) }

-- and so is the tree of an input, or that it has none
tree_or_none : (config : Config) (input : List ℕ) (tree : Option Tree) → tree_of config.is_form config.max_depth input ≡ tree → IsTreeOrNone config input tree
tree_or_none config input None e = no_tree config.is_form config.max_depth input e
tree_or_none config input (Some t) e = is_tree config.is_form config.max_depth input t e

pub is_unstable : (config : Config) (input : List ℕ) (tree : Tree) (d : Data) (text : List ℕ) (other : Option Tree) → tree_of config.is_form config.max_depth input ≡ Some tree → is_stable config.is_form tree ≡ false
    → read_by config Shape.any tree ≡ Some d → IsWritten config d text None → tree_of config.is_form config.max_depth text ≡ other → IsUnstable config input tree d text other
is_unstable config input tree d text other e u r w f =
    record { is_tree = is_tree config.is_form config.max_depth input tree e; unstable = u; reads = related (are_rejected config.duplicates) Shape.any tree d r; written = w; again = tree_or_none config text other f }
