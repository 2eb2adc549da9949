use Rattle.std.proofs.Common.{◌≡◌, true, subst, rules}
use Rattle.std.specs.Str.{is_utf8}
use Rattle.serde.specs.Names.{Finds}
use Rattle.qs_data.proofs.lemmas.read.Errors.{utf8_tests}
use Rattle.qs_serde.specs.Lookups.{FindsText}
use Rattle.qs_serde.proofs.reading.names.find_text.Goals as goal

pub returns-in-Some : goal.returns-in-Some
returns-in-Some c = c.in-Some.ensures

pub returns-in-Ok : goal.returns-in-Ok
unfolding FindsText
returns-in-Ok c =
    let f = c.find.ensures in
    let utf8 : is_utf8 c.args.text.now ≡ true = search (rules, utf8_tests) in
    (subst (λ key. Finds c.args.names.now key c.find.result) c.in-Ok.ensures.cases.0 (f.found, f.first, f.range), utf8)
