use Rattle.std.proofs.Common.{◌++◌, Some, refl, sym, ap, ◌∙◌, option_to_list}
use Rattle.qs_serde.specs.Places.{innermost}
use Rattle.qs_serde.proofs.Places.{begun}
use Rattle.qs_serde.proofs.reading.format.TreeFormat.open.Goals as goal

pub returns-in_ok-push-in-Some-clause-begins : goal.returns-in_ok-push-in-Some-clause-begins
returns-in_ok-push-in-Some-clause-begins c =
    begun c.args.self.now _ c.args.kind (ap Some c.new.ensures) (c.in_ok-push-in-Some.ensures.items ∙ ap (λ o. c.args.self.now.around.items ++ option_to_list (innermost c.args.self.now.top o)) (sym c.in-Some.is))
    refl refl refl refl refl refl
