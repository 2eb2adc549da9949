use Rattle.std.proofs.Common.{◌∙◌}
use Rattle.qs_tool.proofs.arguments.Request.from_words.Goals as goal

pub returns : goal.returns
returns c = c.ok.ensures.value ∙ c.parse.ensures.request
