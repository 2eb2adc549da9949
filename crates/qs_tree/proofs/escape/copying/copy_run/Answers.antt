use Rattle.qs_tree.proofs.Common.{arith, take, length-take-le, swapped}
use Rattle.qs_tree.proofs.lemmas.escape.Copied.{swapped_lanes, stored_front}
use Rattle.qs_tree.proofs.escape.copying.copy_run.Goals as goal

pub returns-clause-text : goal.returns-clause-text
returns-clause-text g c =
    let a = c.args in
    let front = take 32 a.bytes.now in
    let written = swapped_lanes a.from a.to front 32 (length-take-le 32 a.bytes.now (omega arith)) in
    stored_front (swapped a.from a.to) a.bytes.now a.room.now _ a.at 32 c.run.result written (omega arith) (omega arith) c.run.ensures.0
