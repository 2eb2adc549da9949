use Rattle.qs_tree.proofs.Common.{◌∙◌, ap, sym, class_mask, is_escaped}
use Rattle.qs_tree.proofs.escape.search.encoded.EscapedClass.mask.Goals as goal

pub returns-then-self : goal.returns-then-self
returns-then-self c = c.form_mask.ensures ∙ ap (λ is_form. class_mask (is_escaped is_form) c.args.bytes.now c.args.at 32) (sym c.if-self.true)

pub returns-else-self : goal.returns-else-self
returns-else-self c = c.query_mask.ensures ∙ ap (λ is_form. class_mask (is_escaped is_form) c.args.bytes.now c.args.at 32) (sym c.if-self.false)
