-- Types of which what is read is what is written.
use Rattle.std.specs.Prelude.{◌≡◌, Bool, Option, Some}
use Rattle.qs_spec.specs.Data.{Data}
use Rattle.qs_spec.specs.Relation.{Reads}
use Rattle.qs_spec.specs.Shape.{Shape}
use Rattle.qs_spec.specs.Tree.{Tree}

-- Whatever the shape reads means a value, and data that mean a value are those that it is written as.
pub record IsExact {A V : Type 0} (value : A → V) (datum : A → Data) (shape : Shape) (meaning : Data → Option V) : Type 0 where
  pub is_meant : {reject_duplicates : Bool} {node : Tree} {d : Data} → Reads reject_duplicates shape node d → (v : V) × (meaning d ≡ Some v)
  pub is_written : (x : A) (d : Data) → meaning d ≡ Some (value x) → datum x ≡ d
