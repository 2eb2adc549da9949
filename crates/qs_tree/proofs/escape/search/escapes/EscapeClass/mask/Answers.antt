use Rattle.qs_tree.proofs.Common.{refl, arith, length-chunk, chunk, is_escape, zip2_of_maps, zip2_splat}
use Rattle.qs_tree.proofs.lemmas.escape.LaneLemmas.{mask_is}
use Rattle.qs_tree.proofs.escape.search.escapes.EscapeClass.mask.Goals as goal

pub returns : goal.returns
returns c =
    let v = chunk c.args.at 32 c.args.bytes.now in
    let long = length-chunk c.args.at 32 c.args.bytes.now c.requires in
    mask_is is_escape c.args.bytes.now c.args.at 32 c.requires (omega arith) c.type_inv.bytes _
    (zip2_of_maps _ _ _ v (zip2_splat _ v 32 43 long) (zip2_splat _ v 32 37 long)) refl
