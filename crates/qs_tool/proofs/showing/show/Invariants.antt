use Rattle.std.proofs.Common.{◌≡◌, ◌++◌, length}
use Rattle.qs_data.specs.data.Views.{data_of}
use Rattle.qs_tool.specs.Shown.{shown}
use Rattle.qs_tool.specs.internal.Pieces.{text_of_stack}
use Rattle.qs_tool.proofs.showing.show.Given as goal

-- the line so far, and what is on the stack
abbrev pub invariant-loop-piece : goal.invariant-loop-piece
invariant-loop-piece l = l.line.items ++ text_of_stack l.stack.items ≡ l.fn.line.items ++ shown (data_of l.datum)

-- what is still to be written
abbrev pub decreases-loop-piece : goal.decreases-loop-piece
decreases-loop-piece l = length (text_of_stack l.stack.items)
