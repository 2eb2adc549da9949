-- What it means that a node is read as the data that were written.
use Rattle.std.proofs.Common.{◌≡◌, Bool, false, List, Option}
use Rattle.qs_spec.specs.Leaf.Leaf.{NoValue, Null, Text}
use Rattle.qs_spec.specs.Tree.{Tree, Entries}
use Rattle.qs_spec.specs.Data.{Data, Values, Pairs, Members}
use Rattle.qs_spec.specs.Shape.{Shape, Shapes, Fields, KeyShape}
use Rattle.qs_spec.specs.Relation.{Reads, ReadsEach, ReadsFirst, ReadsPairs, ReadsNames}
use Rattle.qs_spec.specs.Plain.{is_optional}
use Rattle.qs_spec.specs.Same.{Same, SameValues, SamePairs, SameMembers}

-- a node that some shapes that aren't options distinguish from one that isn't there
abbrev pub IsValued : Tree → Type 0
IsValued (Tree.leaf NoValue) = ⊥
IsValued (Tree.leaf Null) = Unit {0}
IsValued (Tree.leaf (Text t m)) = Unit {0}
IsValued (Tree.sequence xs) = Unit {0}
IsValued (Tree.mapping es) = Unit {0}
IsValued Tree.uninitialized = ⊥

-- the shape reads data from the node that are the same
pub record IsBack (reject_duplicates : Bool) (s : Shape) (t : Tree) (d : Data) : Type 0 where
  pub answer : Data
  pub reads : Reads reject_duplicates s t answer
  pub same : Same d answer
  pub valued : is_optional d ≡ false → IsValued t

pub record AreBack (reject_duplicates : Bool) (s : Shape) (xs : List (Option Tree)) (ds : Values) : Type 0 where
  pub answers : Values
  pub reads : ReadsEach reject_duplicates s xs answers
  pub same : SameValues ds answers

pub record IsTupleBack (reject_duplicates : Bool) (ss : Shapes) (xs : List (Option Tree)) (ds : Values) : Type 0 where
  pub answers : Values
  pub reads : ReadsFirst reject_duplicates ss xs answers
  pub same : SameValues ds answers

pub record ArePairsBack (reject_duplicates : Bool) (k : KeyShape) (s : Shape) (es : Entries) (ps : Pairs) : Type 0 where
  pub answers : Pairs
  pub reads : ReadsPairs reject_duplicates k s es answers
  pub same : SamePairs ps answers

pub record AreFieldsBack (reject_duplicates : Bool) (fs : Fields) (es : Entries) (ms : Members) : Type 0 where
  pub answers : Members
  pub reads : ReadsNames reject_duplicates fs es answers
  pub same : SameMembers ms answers
