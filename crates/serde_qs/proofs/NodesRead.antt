-- What is read from a node.
use Rattle.std.proofs.Common.{◌≡◌, true, Bool, ℕ, List, Result, Ok, Err, Option, Some, None, refl, sym, ap, ◌∙◌}
use Rattle.std.specs.Option.{option_and_then}
use Rattle.qs_spec.specs.Config.{Config, are_rejected}
use Rattle.qs_spec.specs.Data.{Data}
use Rattle.qs_spec.specs.Shape.{Shape, is_distinct}
use Rattle.qs_spec.specs.Tree.{Tree, IsTree}
use Rattle.qs_spec.specs.internal.ReadFunction.{reads}
use Rattle.qs_spec.proofs.DataRelatedIsRead.{sound}
use Rattle.qs_spec.proofs.ReadingIsRelation.{related}
use Rattle.qs_tree.specs.declared.error.Error.{Error}
use Rattle.qs_tree.specs.declared.error.Error.TheVariants.{Custom, Utf8, OutOfMemory}
use Rattle.serde_qs.specs.Nodes.{ReadsNode}
use Rattle.serde_qs.specs.Typed.{IsRead, IsUnread, ReturnsValue}

-- what something means that isn't missing
pub record Meant {A V : Type 0} (meaning : A → Option V) (r : Option A) (v : V) : Type 0 where
  pub datum : A
  pub here : r ≡ Some datum
  pub means : meaning datum ≡ Some v

pub meant : {A V : Type 0} (meaning : A → Option V) (r : Option A) (v : V) → option_and_then meaning r ≡ Some v → Meant meaning r v
meant meaning None v h = absurd cc
meant meaning (Some d) v h = record { datum = d; here = refl; means = h }

module _ {X V : Type 0} (view : X → V) (config : Config) (shape : Shape) (meaning : Data → Option V) (input : List ℕ) (tree : Tree)
    (dist : is_distinct shape ≡ true) (has_tree : IsTree config.is_form config.max_depth input tree) where
  abbrev reject_duplicates : Bool
  reject_duplicates = are_rejected config.duplicates

  unread : option_and_then meaning (reads reject_duplicates shape tree) ≡ None → IsUnread config shape meaning input
  unread none = record {
    tree = tree;
    has_tree = has_tree;
    is_unread = λ d r. sym (ap (option_and_then meaning) (sound reject_duplicates dist r)) ∙ none;
  }

  read : (v : V) → option_and_then meaning (reads reject_duplicates shape tree) ≡ Some v → IsRead config shape meaning input v
  read v h =
      let m = meant meaning (reads reject_duplicates shape tree) v h in
      record { tree = tree; datum = m.datum; has_tree = has_tree; is_read = related reject_duplicates shape tree m.datum m.here; is_meant = m.means }

  pub returns_value : (result : Result X Error) → ReadsNode view shape meaning reject_duplicates tree result → ReturnsValue view config shape meaning input result
  returns_value (Ok x) g = read (view x) g
  returns_value (Err (Custom message)) g = unread g
  returns_value (Err (Utf8 cause)) g = (unread g.0, (tree, has_tree, g.1))
  returns_value (Err OutOfMemory) g = tt
  returns_value (Err _) g = absurd g
