use Rattle.qs_tree.proofs.Common.{refl, arith, false, cond, ltb, length-chunk, chunk, is_escaped, zip2_of_maps, zip2_splat, map-id, sym}
use Rattle.qs_tree.proofs.lemmas.escape.LaneLemmas.{mask_is, after_splat, before_splat}
use Rattle.qs_tree.proofs.escape.search.encoded.query_mask.Goals as goal

pub returns : goal.returns
returns c =
    let v = chunk c.args.at 32 c.args.bytes.now in
    let long = length-chunk c.args.at 32 c.args.bytes.now c.requires in
    mask_is (is_escaped false) c.args.bytes.now c.args.at 32 c.requires (omega arith) c.type_inv.bytes _
    (zip2_of_maps _ _ _ v (zip2_of_maps _ _ _ v (zip2_of_maps _ _ _ v (zip2_of_maps _ _ _ v (zip2_of_maps _ _ _ v (zip2_of_maps _ _ _ v (zip2_splat _ v 32 32 long) (before_splat (λ a b. cond (ltb a b) 255 0) _ v 32 126 long (sym (map-id v)))) (after_splat _ _ v 32 2 long (zip2_splat _ v 32 34 long))) (after_splat _ _ v 32 2 long (zip2_splat _ v 32 37 long))) (after_splat _ _ v 32 3 long (zip2_splat _ v 32 60 long))) (zip2_of_maps _ _ _ v (zip2_splat _ v 32 91 long) (zip2_splat _ v 32 93 long))) (zip2_splat _ v 32 43 long)) refl
