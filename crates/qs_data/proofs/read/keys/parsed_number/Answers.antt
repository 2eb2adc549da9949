use Rattle.qs_data.proofs.Common.{◌≡◌, Ok, decimal, sym, ap, ◌∙◌, arith, false≢true, parse-decimal}
use Rattle.qs_data.proofs.lemmas.read.Lookups.{bytes_eq_same}
use Rattle.qs_data.proofs.read.keys.parsed_number.Goals as goal

pub returns-else-eq : goal.returns-else-eq
returns-else-eq c = λ n lt is.
    let name = c.args.name.now in
    let read : c.parse.result ≡ Ok n = parse-decimal 32 n name c.parse.result lt (omega arith) (sym is) c.parse.ensures.value.0 in
    let same : n ≡ c.in-Ok.number = cc in
    let written = c.format.ensures.text ∙ ap decimal (sym same) ∙ is in
    false≢true (c.if-eq.ensures ∙ bytes_eq_same c.format.result.now name written)

pub returns-in-Err : goal.returns-in-Err
returns-in-Err c = λ n lt is.
    let name = c.args.name.now in
    let read : c.parse.result ≡ Ok n = parse-decimal 32 n name c.parse.result lt (omega arith) (sym is) c.parse.ensures.value.0 in
    absurd cc
