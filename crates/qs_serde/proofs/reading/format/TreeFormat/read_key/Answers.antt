use Rattle.qs_data.specs.read.TreeText.{is_text}
use Rattle.qs_serde.specs.Nodes.{node_tree}
use Rattle.qs_serde.proofs.Errors.{hint_rejects, of_rejects}
use Rattle.qs_serde.proofs.reading.format.TreeFormat.read_key.Goals as goal

pub returns-in-Err-clause-errors : goal.returns-in-Err-clause-errors
returns-in-Err-clause-errors c =
    let all_text = is_text (node_tree c.args.node) in
    c.hinted.ensures.step all_text (of_rejects all_text c.in-Err.error _ c.in-Err.ensures)

pub returns-in-Err-clause-exact : goal.returns-in-Err-clause-exact
returns-in-Err-clause-exact c = hint_rejects (is_text (node_tree c.args.node)) c.in-Err.error _ _ c.hinted.ensures.hinted c.in-Err.ensures
