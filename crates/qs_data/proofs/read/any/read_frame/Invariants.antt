use Rattle.qs_data.proofs.Common.{suc, ◌+◌, ◌*◌, frame_size}
use Rattle.qs_data.proofs.lemmas.read.Nesting.{Continues, frames_size}
use Rattle.qs_data.proofs.read.any.read_frame.Given as goal

abbrev pub invariant-loop-frame : goal.invariant-loop-frame
invariant-loop-frame l = Continues l.fn.outermost l.stack.items l.frame

abbrev pub decreases-loop-frame : goal.decreases-loop-frame
decreases-loop-frame l = frames_size l.stack.items + suc (2 * frame_size l.frame)
