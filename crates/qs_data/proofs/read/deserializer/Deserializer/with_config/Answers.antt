use Rattle.qs_data.proofs.read.deserializer.Deserializer.with_config.Goals as goal

pub returns-clause-reordered : goal.returns-clause-reordered
returns-clause-reordered c = c.in_ok-tree.ensures.parsed.reordered
