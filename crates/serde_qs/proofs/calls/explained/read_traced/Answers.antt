use Rattle.qs_tree.specs.tree.Views.{tree_of}
use Rattle.serde_qs.proofs.NodesRead.{returns_value}
use Rattle.serde_qs.proofs.calls.explained.read_traced.Goals as goal

pub returns : goal.returns
returns g c =
    returns_value g.T.Deserialize.table.value c.args.config g.T.Deserialize.table.shape g.T.Deserialize.table.meaning c.args.input.now (tree_of c.in_ok-tree.tree)
    g.T.Deserialize.table.distinct c.in_ok-tree.ensures.tree c.read_root_traced.result c.read_root_traced.ensures
