use Rattle.qs_data.specs.data.Views.{data_of}
use Rattle.qs_c.proofs.Unwritten.{errors, unwritten}
use Rattle.qs_c.proofs.writing.text_of.Goals as goal

pub returns-in_err-serialize-clause-none : goal.returns-in_err-serialize-clause-none
returns-in_err-serialize-clause-none c =
    let k = c.in_err-serialize.ensures in
    let s = c.new-serializer.result in
    unwritten c.from_residual-in_err-serialize.result c.in_err-serialize.field-0.0 s.config.max_depth s.config c.args.config (data_of c.args.datum.now) s.failed
    c.from_residual-in_err-serialize.ensures.1 c.new-serializer.ensures.config k.errors k.too_deep k.bad_key k.failed c.new-serializer.ensures.fresh

pub returns-in_err-serialize-clause-errors : goal.returns-in_err-serialize-clause-errors
returns-in_err-serialize-clause-errors c =
    let k = c.in_err-serialize.ensures in
    let s = c.new-serializer.result in
    errors c.from_residual-in_err-serialize.result c.in_err-serialize.field-0.0 s.config c.args.config (data_of c.args.datum.now) s.failed
    c.from_residual-in_err-serialize.ensures.1 c.new-serializer.ensures.config k.errors k.too_deep k.failed c.new-serializer.ensures.fresh
