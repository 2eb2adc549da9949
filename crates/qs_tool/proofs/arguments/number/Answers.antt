use Rattle.std.proofs.Common.{◌∙◌}
use Rattle.qs_tool.proofs.Numbers.{parsed}
use Rattle.qs_tool.proofs.arguments.number.Goals as goal

pub returns : goal.returns
returns c = c.ok.ensures.value ∙ parsed c.args.text.now c.parse.result c.parse.ensures.value.0
