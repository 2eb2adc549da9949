use Rattle.qs_data.specs.write.Parts.{data_part, under}
use Rattle.qs_data.specs.write.Scalars.{scalar_text}
use Rattle.qs_data.proofs.lemmas.write.Parts.{part_exit, part_stops_under, part_under}
use Rattle.serde_qs.proofs.parts.write_under.Goals as goal

pub returns : goal.returns
returns g c =
    part_under (scalar_text c.args.segment) c.in_ok-len.len c.args.writer.now c.enter.new.self (data_part (g.T.Serialize.datum c.args.value.now)) c.in_ok-len.ensures.ok
    c.write_to.new.writer c.leave.new.self c.in_ok-write_to.ensures.written c.leave.ensures

pub returns-in_err-len : goal.returns-in_err-len
returns-in_err-len g c =
    let part = data_part (g.T.Serialize.datum c.args.value.now) in
    part_exit _ c.in_err-len.field-0.0 c.args.writer.now c.enter.new.self (under (scalar_text c.args.segment) part) c.from_residual.ensures.1 (c.in_err-len.ensures.err part)

pub returns-in_err-write_to : goal.returns-in_err-write_to
returns-in_err-write_to g c =
    let part = data_part (g.T.Serialize.datum c.args.value.now) in
    part_exit _ c.in_err-write_to.field-0.0 c.args.writer.now c.write_to.new.writer (under (scalar_text c.args.segment) part) c.from_residual-in_err-write_to.ensures.1
    (part_stops_under (scalar_text c.args.segment) c.in_ok-len.len c.args.writer.now c.enter.new.self part c.in_ok-len.ensures.ok c.in_err-write_to.field-0.0 c.write_to.new.writer c.in_err-write_to.ensures.written)
