use Rattle.std.proofs.Common.{sym, subst}
use Rattle.qs_serde.specs.Noted.{Follows}
use Rattle.qs_serde.specs.Placed.{Moves}
use Rattle.qs_serde.specs.Sent.{sent}
use Rattle.qs_serde.proofs.Kept.{follows_on, follows_stop}
use Rattle.qs_serde.proofs.writing.logging.keep.Goals as goal

pub returns-in-Ok-clause-follows : goal.returns-in-Ok-clause-follows
returns-in-Ok-clause-follows c config before e shown moves follows =
    let now = c.args.position.now in
    subst (λ log. Follows config log now) (sym c.then.ensures)
    (follows_on config c.args.log.now.events c.args.note.now before now e c.in-Ok.field-0 shown (subst (λ r. Moves (λ config. sent config e) r before now) c.in-Ok.is moves) follows)

pub returns-in-Err-clause-follows : goal.returns-in-Err-clause-follows
returns-in-Err-clause-follows c config before e shown moves follows =
    let now = c.args.position.now in
    follows_stop config c.args.log.now.events before now e c.in-Err.halt (subst (λ r. Moves (λ config. sent config e) r before now) c.in-Err.is moves) follows

pub returns-in-Ok-clause-sends : goal.returns-in-Ok-clause-sends
returns-in-Ok-clause-sends c before e moves = record { moves = subst (λ r. Moves (λ config. sent config e) r before c.args.position.now) c.in-Ok.is moves }

pub returns-in-Err-clause-sends : goal.returns-in-Err-clause-sends
returns-in-Err-clause-sends c before e moves = record { moves = subst (λ r. Moves (λ config. sent config e) r before c.args.position.now) c.in-Err.is moves }
