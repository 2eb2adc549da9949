use Rattle.qs_tree.proofs.Common.{take, drop, sym, ap, ◌∙◌, tokens, left}
use Rattle.qs_tree.proofs.lemmas.scan.Values.{value_cut, value_past, plain_value}
use Rattle.qs_tree.proofs.scan.cursor.Cursor.value.Goals as goal

pub returns-clause-value : goal.returns-clause-value
returns-clause-value c =
    let old = c.args.self.now in
    let end = c.find_value_end-end.ensures.first in
    c.split_at.ensures.front ∙ ap (λ n. take n old.rest.now) end ∙ sym (value_cut old.is_form old.rest.now).run

pub returns-clause-past : goal.returns-clause-past
returns-clause-past c =
    let old = c.args.self.now in
    let end = c.find_value_end-end.ensures.first in
    value_past (left old) c.next.result c.next.new.self
    ((value_cut old.is_form old.rest.now).rest ∙ sym (ap (tokens old.is_form) (c.split_at.ensures.back ∙ ap (λ n. drop n old.rest.now) end)) ∙ c.next.ensures.token)
    c.next.ensures.end

pub returns-clause-has_no_escape : goal.returns-clause-has_no_escape
returns-clause-has_no_escape c =
    let old = c.args.self.now in
    let end = c.find_value_end-end.ensures.first in
    λ ignoring_escapes. plain_value old.rest.now c.split_at.result.0.now c.split_at.result.1.now c.next.result c.next.new.self.rest.now ignoring_escapes
    (c.split_at.ensures.front ∙ ap (λ n. take n old.rest.now) end) (c.split_at.ensures.back ∙ ap (λ n. drop n old.rest.now) end) c.next.ensures.bytes c.next.ensures.end
