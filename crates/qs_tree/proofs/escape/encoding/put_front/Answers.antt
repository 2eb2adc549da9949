use Rattle.qs_tree.proofs.Common.{◌++◌, ◌∙◌, ap, sym, arith, length, take, drop, map, get_or, length-map, length-take-le, encoded, escape, swapped, append_assoc, length-append}
use Rattle.qs_tree.proofs.lemmas.escape.EncodedFronts.{encoded_run, encoded_escape, length_encoded}
use Rattle.qs_tree.proofs.escape.encoding.put_front.Goals as goal

pub copy_run-len-requires-clause-room : goal.copy_run-len-requires-clause-room
copy_run-len-requires-clause-room c = omega (arith, c.requires.room, length_encoded c.args.is_form c.args.bytes.now)

pub put_escape-requires : goal.put_escape-requires
put_escape-requires c =
    let byte = get_or c.args.bytes.now 0 0 in
    let whole = encoded_escape c.args.is_form c.args.bytes.now c.requires.some (sym c.has.ensures ∙ c.if-has.true) in
    omega (arith, ap length whole, length-append (escape byte) (encoded c.args.is_form (drop 1 c.args.bytes.now)), c.requires.room)

pub returns-then-has-clause-room : goal.returns-then-has-clause-room
returns-then-has-clause-room c =
    let byte = get_or c.args.bytes.now 0 0 in
    let whole = encoded_escape c.args.is_form c.args.bytes.now c.requires.some (sym c.has.ensures ∙ c.if-has.true) in
    omega (arith, ap length whole, length-append (escape byte) (encoded c.args.is_form (drop 1 c.args.bytes.now)))

pub returns-then-has-clause-text : goal.returns-then-has-clause-text
returns-then-has-clause-text c =
    let bytes = c.args.bytes.now in
    let whole = encoded_escape c.args.is_form bytes c.requires.some (sym c.has.ensures ∙ c.if-has.true) in
    let rest = encoded c.args.is_form (drop 1 bytes) in
    let front = take c.args.at c.args.room.now in
    ap (λ x. x ++ rest) c.put_escape.ensures ∙ append_assoc front _ rest ∙ ap (λ x. front ++ x) (sym whole)

pub returns-clause-room : goal.returns-clause-room
returns-clause-room c =
    let bytes = c.args.bytes.now in
    let len = c.copy_run-len.result in
    let front = map (swapped 32 43) (take len bytes) in
    let whole = ap length (encoded_run c.args.is_form len bytes c.copy_run-len.ensures.within c.copy_run-len.ensures.none) in
    omega (arith, whole, length-append front (encoded c.args.is_form (drop len bytes)), length-map (take len bytes) (swapped 32 43), length-take-le len bytes c.copy_run-len.ensures.within)

pub returns-clause-text : goal.returns-clause-text
returns-clause-text c =
    let bytes = c.args.bytes.now in
    let len = c.copy_run-len.result in
    let rest = encoded c.args.is_form (drop len bytes) in
    let whole = encoded_run c.args.is_form len bytes c.copy_run-len.ensures.within c.copy_run-len.ensures.none in
    let front = take c.args.at c.args.room.now in
    ap (λ x. x ++ rest) c.copy_run-len.ensures.text ∙ append_assoc front _ rest ∙ ap (λ x. front ++ x) (sym whole)
