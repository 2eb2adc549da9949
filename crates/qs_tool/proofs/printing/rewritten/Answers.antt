use Rattle.std.proofs.lemmas.Result.{err_from_is_err_and}
use Rattle.qs_tool.proofs.Rewriting.{faulty, no_text, not_printed_again}
use Rattle.qs_tool.proofs.printing.rewritten.Goals as goal

pub returns-in_err-value-clause-fault : goal.returns-in_err-value-clause-fault
returns-in_err-value-clause-fault g c =
    let p = err_from_is_err_and c.from_residual.result c.from_residual.ensures.1 in
    rw (p.1, p.2) (λ other. faulty g.T.Deserialize.table.value g.T.Serialize.datum g.T.Deserialize.table.shape g.T.Deserialize.table.meaning c.requires c.args.config c.args.input.now
    c.in_err-value.field-0.0 c.in_err-value.ensures.exact other)

pub returns-in_err-serialize_string-clause-fault : goal.returns-in_err-serialize_string-clause-fault
returns-in_err-serialize_string-clause-fault g c =
    let p = err_from_is_err_and c.from_residual-in_err-serialize_string.result c.from_residual-in_err-serialize_string.ensures.1 in
    let x = c.in_ok-value.value in
    rw (p.1, p.2) (λ other. not_printed_again g.T.Deserialize.table.value g.T.Serialize.datum g.T.Deserialize.table.shape g.T.Deserialize.table.meaning c.requires c.args.config c.args.input.now
    x c.in_ok-value.ensures.exact (no_text c.args.config (g.T.Serialize.datum x) c.in_err-serialize_string.field-0.0 c.in_err-serialize_string.ensures other))
