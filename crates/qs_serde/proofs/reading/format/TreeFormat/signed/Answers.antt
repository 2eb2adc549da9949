use Rattle.std.proofs.Common.{rules}
use Rattle.qs_data.specs.declared.shape.shape.Shape as shape
use Rattle.qs_data.specs.data.Views.{data_of}
use Rattle.qs_serde.specs.Nodes.{node_tree}
use Rattle.qs_serde.proofs.Borrowed.{signed_only}
use Rattle.qs_serde.proofs.reading.format.TreeFormat.signed.Goals as goal

pub returns-in-None-clause-number : goal.returns-in-None-clause-number
returns-in-None-clause-number c plain = absurd (signed_only c.take-node.new.self.reader.reject_duplicates (node_tree c.take-node.result) (data_of c.in_ok-data.data) (search (rules, shape.the_lemmas)) c.in-None.ensures)
