-- A part that isn't read, the path to it, and what is wrong with it.
use Rattle.std.specs.Prelude.{◌≡◌, Bool, List, map, Option, Some, None}
use Rattle.qs_spec.specs.Segment as segments
use Rattle.qs_spec.specs.Shape.{Shape}
use Rattle.qs_spec.specs.Tree.{Tree}
use Rattle.qs_data.specs.declared.failure.segment.Segment.{Segment}
use Rattle.qs_data.specs.declared.failure.segment.Segment.TheVariants.{Index, Key}
use Rattle.qs_data.specs.declared.failure.mismatch.Mismatch.{Mismatch}
use Rattle.qs_data.specs.declared.failure.mismatch.Problem.{Problem}
use Rattle.qs_data.specs.declared.failure.mismatch.Problem.TheVariants.{Unfit, UnexpectedKey}
use Rattle.qs_data.specs.declared.failure.expected.Expected.{Expected}
use Rattle.qs_data.specs.failure.Expected.{Expects, Stands}
use Rattle.qs_data.specs.failure.Unexpected.{unexpected_key}
use Rattle.qs_data.specs.failure.Parts.{Leads}
use Rattle.qs_data.specs.failure.Own.{IsOwn}
use Rattle.qs_data.specs.read.Reads.{reads}

-- a segment of a path, as a segment of a tree
abbrev pub segment_of : Segment → segments.Segment
segment_of (Index i) = segments.Segment.Int i
segment_of (Key bytes) = segments.Segment.Str bytes.items

abbrev pub path_of : Mismatch → List segments.Segment
path_of m = map segment_of m.path.items

-- what is wrong with a part: what is expected, and the unexpected key, or else what is found
abbrev pub Says : Option segments.Segment → (Expected → Type 0) → Tree → Problem → Type 0
Says None IsExpected n (Unfit e actual) = IsExpected e × Stands actual n
Says None IsExpected n (UnexpectedKey k e) = ⊥
Says (Some key) IsExpected n (Unfit e actual) = ⊥
Says (Some key) IsExpected n (UnexpectedKey k e) = (segment_of k ≡ key) × IsExpected e

-- the problem is what is wrong with the node for the shape
abbrev pub IsProblem : Problem → Shape → Tree → Type 0
IsProblem p s n = Says (unexpected_key s n) (Expects s) n p

-- The path leads to a part that isn't read, and the fault is that part's own. The problem is what is wrong with it.
pub record IsMismatch (reject_duplicates : Bool) (s : Shape) (n : Tree) (m : Mismatch) : Type 0 where
  pub part : Shape
  pub node : Tree
  pub leads : Leads (path_of m) s n part node
  pub unread : reads reject_duplicates part node ≡ None
  pub own : IsOwn reject_duplicates part node
  pub problem : IsProblem m.problem part node
