use Rattle.std.proofs.Common.{Some, refl, ap}
use Rattle.qs_serde.proofs.Places.{moved}
use Rattle.qs_serde.proofs.reading.format.TreeFormat.advance.Goals as goal

pub returns-clause-moves : goal.returns-clause-moves
returns-clause-moves c kind small child = moved c.args.self.now _ c.args.frame kind (ap Some (c.advanced.ensures.next small)) refl refl refl refl refl child
