use Rattle.std.specs.Option.{option_map}
use Rattle.qs_tree.specs.tree.Views.{tree_of}
use Rattle.serde_qs.proofs.NodeVariants.{unit_held}
use Rattle.serde_qs.proofs.compound.payloads.UnitPayload.from_node.Goals as goal

pub returns : goal.returns
returns c = λ name. unit_held c.args._reader.reject_duplicates name (option_map (λ v. tree_of v.now) c.args._held)
