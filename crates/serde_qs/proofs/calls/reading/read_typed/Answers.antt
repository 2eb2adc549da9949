use Rattle.serde_qs.proofs.WrittenRead.{returns_written}
use Rattle.serde_qs.proofs.calls.reading.read_typed.Goals as goal

pub returns-clause-back : goal.returns-clause-back
returns-clause-back g c = returns_written g.T.Deserialize.table.value c.args.config g.T.Deserialize.table.shape g.T.Deserialize.table.meaning c.args.input.now c.read_tree.result g.T.Deserialize.table.distinct c.read_tree.ensures
