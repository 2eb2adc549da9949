-- From the function of reading, of which explanations speak, to the relation.
use Rattle.std.proofs.Common.{◌≡◌, true, List, ℕ, Result, Ok, Err, Option, Some, None}
use Rattle.qs_spec.specs.Config.{Config, are_rejected}
use Rattle.qs_spec.specs.Shape.{Shape, is_distinct}
use Rattle.qs_spec.specs.Tree.Tree.{uninitialized}
use Rattle.qs_spec.proofs.ReadingIsRelation.{related, none_related}
use Rattle.qs_explain.specs.declared.explanation.Explanation.{Explanation}
use Rattle.qs_explain.specs.declared.explanation.Explanation.TheVariants as e
use Rattle.qs_explain.specs.Explains.{Explains, ExplainsUnread}

pub explains_unread : {E : Type 0} (config : Config) (s : Shape) (input : List ℕ) (result : Result (Option Explanation) E) → is_distinct s ≡ true → Explains config s input result → ExplainsUnread config s input result
explains_unread config s input (Ok None) distinct found = (found.0, found.1, found.2.0, related (are_rejected config.duplicates) s found.0 found.2.0 found.2.1)
explains_unread config s input (Ok (Some (e.Syntax error))) distinct found = found.0
explains_unread config s input (Ok (Some e.NoPairs)) distinct found = (found.0, (none_related (are_rejected config.duplicates) s uninitialized distinct).1 found.2)
explains_unread config s input (Ok (Some (e.Mismatch m))) distinct found = (found.0, found.1, (none_related (are_rejected config.duplicates) s found.0 distinct).1 found.3)
explains_unread config s input (Err error) distinct found = tt
