use Rattle.qs_tree.proofs.Common.{◌++◌, ◌∙◌, ap, sym, take, drop, decoded, append_assoc}
use Rattle.qs_tree.proofs.lemmas.escape.DecodedFronts.{decoded_run}
use Rattle.qs_tree.proofs.escape.decoding.put_front.Goals as goal

pub returns-in_default-clause-text : goal.returns-in_default-clause-text
returns-in_default-clause-text c =
    let bytes = c.args.bytes.now in
    let run = c.copy_run-len in
    ap (λ x. x ++ decoded (drop run.result bytes)) run.ensures.text ∙ append_assoc (take c.args.at c.args.room.now) _ _
    ∙ ap (λ x. take c.args.at c.args.room.now ++ x) (sym (decoded_run run.result bytes run.ensures.within run.ensures.none))
