use Rattle.std.proofs.Common.{inr, refl, ◌∙◌, sym}
use Rattle.qs_tool.proofs.answer.answer_to.Goals as goal

pub returns-in_ok-line-in-Err : goal.returns-in_ok-line-in-Err
returns-in_ok-line-in-Err c =
    inr (c.in-Err.ensures.fault (sym c.is_memory.ensures ∙ c.if-is_memory.false), c.in_ok-line-in-Err.ensures.line, refl)
