use Rattle.qs_tree.proofs.Common.{◌∙◌, sym, arith, is_escape, position-Some}
use Rattle.qs_tree.proofs.lemmas.escape.DecodedFronts.{decoded_front}
use Rattle.qs_tree.proofs.escape.decoding.unescape.Goals as goal

pub unescaped-requires-clause-same : goal.unescaped-requires-clause-same
unescaped-requires-clause-same c =
    let found = position-Some is_escape c.args.bytes.now c.in-Some.front 0 (sym c.find_escape.ensures.first ∙ c.in-Some.is) in
    decoded_front c.in-Some.front c.args.bytes.now (omega (arith, found.0)) (λ k from to. found.2 k to)
