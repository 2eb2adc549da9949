use Rattle.qs_tree.proofs.Common.{append_assoc, length-set, ◌≡◌, ◌∙◌, ◌+◌, ◌++◌, [], ◌∷◌, refl, ap, arith, take, slice_set, slice_index_or, escape}
use Rattle.std.proofs.lemmas.Grind.{take-set_at}
use Rattle.qs_tree.proofs.lemmas.escape.EncodedFronts.{escape_is}
use Rattle.qs_tree.proofs.escape.encoding.put_escape.Goals as goal

pub returns : goal.returns
returns c =
    let text = c.as_bytes-text.result.now in
    let is : text ≡ escape c.args.byte = c.as_bytes-text.ensures.value ∙ c.percent_encode_byte.ensures ∙ escape_is c.args.byte c.ranges.byte.fits in
    let at = c.args.at in
    let room = c.args.room.now in
    let first = slice_set room at (slice_index_or text 0 0) in
    let second = slice_set first (at + 1) (slice_index_or text 1 0) in
    take-set_at second (at + 2) (at + 3) _ (omega arith) (omega (arith, c.requires, length-set first (at + 1) (slice_index_or text 1 0), length-set room at (slice_index_or text 0 0)))
    ∙ ap (λ x. x ++ slice_index_or text 2 0 ∷ []) (take-set_at first (at + 1) (at + 2) _ (omega arith) (omega (arith, c.requires, length-set room at (slice_index_or text 0 0)))
    ∙ ap (λ x. x ++ slice_index_or text 1 0 ∷ []) (take-set_at room at (at + 1) _ refl (omega (arith, c.requires))))
    ∙ append_assoc (take at room ++ slice_index_or text 0 0 ∷ []) _ _ ∙ append_assoc (take at room) _ _
    ∙ ap (λ t. take at room ++ slice_index_or t 0 0 ∷ slice_index_or t 1 0 ∷ slice_index_or t 2 0 ∷ []) is
