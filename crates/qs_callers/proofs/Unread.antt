-- A rejection of an input says that no value is read from it.
use Rattle.std.proofs.Common.{ℕ, List, Result, Err, Option, ◌⊎◌, inl, inr}
use Rattle.qs_spec.specs.Config.{Config}
use Rattle.qs_spec.specs.Data.{Data}
use Rattle.qs_spec.specs.Shape.{Shape}
use Rattle.qs_spec.specs.Tree.{HasNoTree}
use Rattle.qs_tree.specs.declared.error.Error.{Error}
use Rattle.qs_tree.specs.declared.error.Error.TheVariants.{Custom, Parse, Utf8}
use Rattle.serde_qs.specs.Explained.{IsOfInput}
use Rattle.serde_qs.specs.Typed.{IsUnread, ReturnsValue}

pub unread : {X V : Type 0} (view : X → V) (config : Config) (shape : Shape) (meaning : Data → Option V) (input : List ℕ) (e : Error)
    → ReturnsValue {X = X} view config shape meaning input (Err e) → IsOfInput e → HasNoTree config.is_form config.max_depth input ⊎ IsUnread config shape meaning input
unread view config shape meaning input (Parse message position) rejected is = inl rejected.0
unread view config shape meaning input (Custom message) rejected is = inr rejected
unread view config shape meaning input (Utf8 cause) rejected is = inr rejected.0
unread view config shape meaning input _ rejected is = absurd is
