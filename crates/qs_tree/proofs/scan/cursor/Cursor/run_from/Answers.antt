use Rattle.qs_tree.proofs.Common.{◌≡◌, ◌++◌, ◌-◌, length, append_assoc, sym, ap, ap₂, ◌∙◌, take-append-drop, tokens, ends_of, left, taken}
use Rattle.qs_tree.proofs.lemmas.scan.Runs.{taken_more, stop_kind}
use Rattle.qs_tree.proofs.scan.cursor.Cursor.run_from.Goals as goal

pub returns-clause-run : goal.returns-clause-run
returns-clause-run c =
    let start = c.args.position.rest.now in
    let old = c.args.self.now.rest.now in
    let raw = c.split_at.result.0.now in
    let whole : old ≡ raw ++ c.split_at.result.1.now = sym (ap₂ ◌++◌ c.split_at.ensures.front c.split_at.ensures.back ∙ take-append-drop c.run_len-len.result.0 old) in
    c.since-before.ensures ∙ taken_more start old raw c.split_at.result.1.now c.requires whole
    ∙ ap (λ l. taken start old ++ l) (c.split_at.ensures.front ∙ c.run_len-len.ensures.run)

pub returns-clause-bytes : goal.returns-clause-bytes
returns-clause-bytes c =
    let start = c.args.position.rest.now in
    let old = c.args.self.now.rest.now in
    let raw = c.split_at.result.0.now in
    let rest = c.split_at.result.1.now in
    let whole : old ≡ raw ++ rest = sym (ap₂ ◌++◌ c.split_at.ensures.front c.split_at.ensures.back ∙ take-append-drop c.run_len-len.result.0 old) in
    let before : c.since-before.result.now ≡ taken start old ++ raw = c.since-before.ensures ∙ taken_more start old raw rest c.requires whole in
    let split : start ≡ taken start old ++ old = sym (ap (λ l. taken start old ++ l) c.requires ∙ take-append-drop (length start - length old) start) in
    rw (before, ← c.next.ensures.bytes) (split ∙ ap (λ l. taken start old ++ l) whole ∙ sym (append_assoc (taken start old) raw rest))

pub returns-clause-kind : goal.returns-clause-kind
returns-clause-kind c = stop_kind (ends_of c.args.until) (left c.args.self.now) c.next.result (left c.next.new.self)
    (sym c.run_len-len.ensures.stop ∙ ap (tokens c.args.self.now.is_form) (sym c.split_at.ensures.back) ∙ c.next.ensures.token)
