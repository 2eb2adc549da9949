use Rattle.std.proofs.Common.{refl}
use Rattle.qs_tool.proofs.information.Information.text.Goals as goal

pub returns-in-Help : goal.returns-in-Help
returns-in-Help c = rw c.in-Help.is (_, refl)
