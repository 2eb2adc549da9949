use Rattle.qs_tree.proofs.Common.{refl, arith, true, cond, leb, length-chunk, chunk, is_escaped, zip2_of_maps, zip2_splat}
use Rattle.qs_tree.proofs.lemmas.escape.LaneLemmas.{mask_is, after_splat, before_splat}
use Rattle.qs_tree.proofs.escape.search.encoded.form_mask.Goals as goal

pub returns : goal.returns
returns c =
    let v = chunk c.args.at 32 c.args.bytes.now in
    let long = length-chunk c.args.at 32 c.args.bytes.now c.requires in
    mask_is (is_escaped true) c.args.bytes.now c.args.at 32 c.requires (omega arith) c.type_inv.bytes _
    (zip2_of_maps _ _ _ v (zip2_of_maps _ _ _ v (zip2_of_maps _ _ _ v (before_splat (λ a b. cond (leb a b) 255 0) _ v 32 26 long (after_splat _ _ v 32 97 long (zip2_splat _ v 32 32 long))) (before_splat (λ a b. cond (leb a b) 255 0) _ v 32 10 long (zip2_splat _ v 32 48 long))) (zip2_of_maps _ _ _ v (zip2_splat _ v 32 45 long) (zip2_splat _ v 32 46 long))) (zip2_of_maps _ _ _ v (zip2_splat _ v 32 42 long) (zip2_splat _ v 32 95 long))) refl
