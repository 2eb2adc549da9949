use Rattle.qs_serde.proofs.Kept.{follows_start}
use Rattle.qs_serde.proofs.writing.text.TextSerializer.over.Goals as goal

pub invariant_of-result : goal.invariant_of-result
invariant_of-result g c = record { follows = follows_start c.args.config g.K.Settings.config c.new-3.result.events c.new.result c.requires.config c.new-3.ensures c.new.ensures }
