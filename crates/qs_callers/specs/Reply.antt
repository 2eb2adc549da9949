-- What a call returns that says in words what is wrong with an input.
use Rattle.std.specs.Prelude.{⊤, ℕ, List, Result, Ok, Err, Option, ◌⊎◌}
use Rattle.qs_tree.specs.declared.error.Error.{Error}
use Rattle.qs_tree.specs.declared.error.Error.TheVariants.{OutOfMemory}
use Rattle.qs_spec.specs.Config.{Config}
use Rattle.qs_spec.specs.Data.{Data}
use Rattle.qs_spec.specs.Shape.{Shape}
use Rattle.qs_spec.specs.Tree.{HasNoTree}
use Rattle.serde_qs.specs.Typed.{IsRead, IsUnread}

-- the value that is read from the input; or words, exactly if no value is read from it; or an allocation failed
abbrev pub Replies : {X V W : Type 0} → (X → V) → Config → Shape → (Data → Option V) → List ℕ → Result (Result X W) Error → Type 0
Replies view config shape meaning input (Ok (Ok x)) = IsRead config shape meaning input (view x)
Replies view config shape meaning input (Ok (Err words)) = HasNoTree config.is_form config.max_depth input ⊎ IsUnread config shape meaning input
Replies view config shape meaning input (Err OutOfMemory) = ⊤
Replies view config shape meaning input (Err _) = ⊥
