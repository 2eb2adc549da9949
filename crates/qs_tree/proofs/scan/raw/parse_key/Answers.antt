use Rattle.qs_tree.proofs.lemmas.scan.Indexes.{number_key}
use Rattle.qs_tree.proofs.scan.raw.parse_key.Goals as goal

pub returns-in-Some : goal.returns-in-Some
returns-in-Some c = record { key = number_key c.args.raw.now c.in-Some.index c.in-Some.ensures }
