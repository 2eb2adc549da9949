use Rattle.std.proofs.Common.{◌∙◌, ◌++◌, ap, sym, arith, length, take}
use Rattle.qs_tree.proofs.lemmas.escape.EncodedFronts.{byte_escaped}
use Rattle.qs_tree.proofs.escape.encoding.put_byte.Goals as goal

pub put_escape-requires : goal.put_escape-requires
put_escape-requires c = omega (arith, ap length (byte_escaped c.args.is_form c.args.byte (sym c.has.ensures ∙ c.if-has.true)), c.requires)

pub returns-then-has-clause-len : goal.returns-then-has-clause-len
returns-then-has-clause-len c = ap length (sym (byte_escaped c.args.is_form c.args.byte (sym c.has.ensures ∙ c.if-has.true)))

pub returns-then-has-clause-text : goal.returns-then-has-clause-text
returns-then-has-clause-text c =
    c.put_escape.ensures ∙ ap (λ x. take c.args.at c.args.room.now ++ x) (sym (byte_escaped c.args.is_form c.args.byte (sym c.has.ensures ∙ c.if-has.true)))
