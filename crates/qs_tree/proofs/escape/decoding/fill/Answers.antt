use Rattle.qs_tree.proofs.Common.{◌≡◌, ◌+◌, ◌-◌, ◌++◌, ◌∙◌, length, take, drop, sym, ap, ap₂, arith, length-drop, take_all, decoded}
use Rattle.qs_tree.proofs.escape.decoding.fill.Goals as goal

pub returns : goal.returns
returns c =
    let front = c.args.front in
    let bytes = c.args.bytes.now in
    let rest : take (length bytes - front) (drop front bytes) ≡ drop front bytes = take_all (length bytes - front) (drop front bytes) (omega (arith, length-drop front bytes)) in
    let begin : front ≡ 0 + front = omega arith in
    c.fill_after.ensures ∙ ap₂ (λ x y. x ++ decoded y) (ap (λ n. take n c.put_raw.new.room) begin ∙ c.put_raw.ensures.text) rest ∙ sym c.requires.same
