use Rattle.qs_tree.proofs.Common.{◌≡◌, ◌^◌, ◌==◌, ◌∙◌, ap, sym, arith, map, false, length-map, length-chunk, mask_l-lt, chunk, mask_l, class_mask, is_escaped, is_encoded}
use Rattle.qs_tree.proofs.lemmas.escape.Spaces.{mask_with_spaces}
use Rattle.qs_tree.proofs.escape.search.encoded.EncodedClass.mask.Goals as goal

pub overflow_add-result : goal.overflow_add-result
overflow_add-result c =
    let v = chunk c.args.at 32 c.args.bytes.now in
    let all = map (is_encoded false) v in
    let spaces : c.mask.result ≡ mask_l (map (λ b. b == 32) v) = c.mask.ensures in
    let escapes : c.query_mask.result ≡ mask_l (map (is_escaped false) v) = c.query_mask.ensures in
    let few = ap (λ n. 2 ^ n) (length-map v (is_encoded false) ∙ length-chunk c.args.at 32 c.args.bytes.now c.requires) in
    omega (arith, mask_with_spaces v, mask_l-lt all, few)

pub returns-then-self : goal.returns-then-self
returns-then-self c = c.form_mask.ensures ∙ ap (λ is_form. class_mask (is_encoded is_form) c.args.bytes.now c.args.at 32) (sym c.if-self.true)

pub returns-else-self : goal.returns-else-self
returns-else-self c =
    let v = chunk c.args.at 32 c.args.bytes.now in
    let spaces : c.mask.result ≡ mask_l (map (λ b. b == 32) v) = c.mask.ensures in
    let escapes : c.query_mask.result ≡ mask_l (map (is_escaped false) v) = c.query_mask.ensures in
    omega (arith, mask_with_spaces v) ∙ ap (λ is_form. class_mask (is_encoded is_form) c.args.bytes.now c.args.at 32) (sym c.if-self.false)
