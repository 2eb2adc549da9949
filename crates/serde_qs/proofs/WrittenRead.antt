-- A typed call returns what written data mean.
use Rattle.std.proofs.Common.{◌≡◌, true, List, ℕ, Result, Ok, Err, Option, sym, subst}
use Rattle.qs_spec.specs.Config.{Config, are_rejected}
use Rattle.qs_spec.specs.Data.{Data}
use Rattle.qs_spec.specs.Shape.{Shape, is_distinct}
use Rattle.qs_spec.specs.Tree.{Tree, IsTree}
use Rattle.qs_spec.specs.Relation.{ReadsBy}
use Rattle.qs_spec.specs.ReadBack.{IsReadBack}
use Rattle.qs_spec.specs.Same.{Same}
use Rattle.qs_spec.proofs.TreeOf.{one_tree}
use Rattle.qs_spec.proofs.DataRelatedIsRead.{one_data}
use Rattle.qs_tree.specs.declared.error.Error.{Error}
use Rattle.qs_tree.specs.declared.error.Error.TheVariants.{Custom, Parse, Utf8, OutOfMemory}
use Rattle.qs_data.proofs.lemmas.read.ReadBack.{in_order}
use Rattle.serde_qs.specs.Typed.{ReturnsValue, ReturnsSame, ReturnsWritten}

-- the form relates every tree of the input to the data that are read back
from_tree : (config : Config) (shape : Shape) (x : Data) (input : List ℕ) (b : IsReadBack config shape x input) (t : Tree) → IsTree config.is_form config.max_depth input t → ReadsBy config shape t b.answer
from_tree config shape x input b t is = subst (λ (u : Tree). ReadsBy config shape u b.answer) (one_tree config.is_form config.max_depth input b.tree t b.is_tree is) b.reads

returned : {X V : Type 0} (view : X → V) (config : Config) (shape : Shape) (meaning : Data → Option V) (input : List ℕ) (result : Result X Error)
    → is_distinct shape ≡ true → ReturnsValue view config shape meaning input result → (x : Data) → IsReadBack config shape x input → ReturnsSame view meaning x result
returned view config shape meaning input (Ok y) dist g x b =
    (g.datum, subst (Same x) (one_data (are_rejected config.duplicates) shape g.tree b.answer g.datum dist (from_tree config shape x input b g.tree g.has_tree) g.is_read) b.same, g.is_meant)
returned view config shape meaning input (Err (Custom m)) dist g x b = (b.answer, b.same, g.is_unread b.answer (from_tree config shape x input b g.tree g.has_tree))
returned view config shape meaning input (Err (Utf8 m)) dist g x b = (b.answer, b.same, g.0.is_unread b.answer (from_tree config shape x input b g.0.tree g.0.has_tree))
returned view config shape meaning input (Err (Parse m n)) dist g x b = g.0 b.tree b.is_tree
returned view config shape meaning input (Err OutOfMemory) dist g x b = tt
returned view config shape meaning input (Err _) dist g x b = absurd g

pub returns_written : {X V : Type 0} (view : X → V) (config : Config) (shape : Shape) (meaning : Data → Option V) (input : List ℕ) (result : Result X Error)
    → is_distinct shape ≡ true → ReturnsValue view config shape meaning input result → ReturnsWritten view config shape meaning input result
returns_written view config shape meaning input result dist g = record {
  returns = λ x es plain o p. returned view config shape meaning input result dist g x (subst (IsReadBack config shape x) (sym p) (in_order config shape x es dist plain o));
}
