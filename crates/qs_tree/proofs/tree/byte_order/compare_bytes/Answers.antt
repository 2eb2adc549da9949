use Rattle.qs_tree.proofs.Common.{◌≡◌, ◌-◌, ◌∙◌, sym, length, take, drop, length-drop, arith, take_all}
use Rattle.qs_tree.proofs.lemmas.tree.ByteOrder.{found_first, found_later}
use Rattle.qs_tree.proofs.tree.byte_order.compare_bytes.Goals as goal

pub returns-then-is_ne : goal.returns-then-is_ne
returns-then-is_ne c = found_first c.compare_words-found.result _ _ c.compare_words-found.ensures (sym c.is_ne.ensures ∙ c.if-is_ne.true) ∙ c.loop-left.invariant

pub loop-left-preserved : goal.loop-left-preserved
loop-left-preserved c =
    let left = c.loop-left.left.now in
    let right = c.loop-left.right.now in
    let one : take (length left - 8) (drop 8 left) ≡ drop 8 left = take_all (length left - 8) (drop 8 left) (omega (arith, length-drop 8 left)) in
    let two : take (length right - 8) (drop 8 right) ≡ drop 8 right = take_all (length right - 8) (drop 8 right) (omega (arith, length-drop 8 right)) in
    rw (one, two) (found_later c.compare_words-found.result _ _ c.compare_words-found.ensures (sym c.is_ne.ensures ∙ c.if-is_ne.false) ∙ c.loop-left.invariant)
