use Rattle.qs_tree.proofs.Common.{refl, sym, ap, ◌∙◌, arith, inl, inr, cases_lt, is_escape, ends_of, kind_of_token, slice_index}
use Rattle.qs_tree.proofs.lemmas.scan.Runs.{token_on, inside_on, end_at, stop_on}
use Rattle.qs_tree.proofs.lemmas.escape.FirstPlace.{none_in_front}
use Rattle.qs_tree.proofs.scan.cursor.run_len.Goals as goal

pub loop-at-preserved-then-is_inside : goal.loop-at-preserved-then-is_inside
loop-at-preserved-then-is_inside c = (
  inside_on (ends_of c.args.until) c.args.is_form c.args.bytes.now c.loop-at.at c.loop-at.invariant.0 (omega (arith, c.loop-at-test.true)) (c.if-is_inside.ensures.inside refl),
  λ ignoring_escapes k from to. elim (cases_lt k c.loop-at.at) [
    | inl early ↦ c.loop-at.invariant.1 ignoring_escapes k from early
    | inr late ↦ ap (λ n. is_escape (slice_index c.args.bytes.now n)) (omega (arith, late, to)) ∙ c.if-is_inside.ensures.has_no_escape refl
  ],
)

pub loop-at-preserved : goal.loop-at-preserved
loop-at-preserved c = (
  token_on (ends_of c.args.until) c.args.is_form c.args.bytes.now c.loop-at.at c.first_token-kind.result.1 (kind_of_token c.first_token-kind.result.0) c.loop-at.invariant.0
      c.first_token-kind.ensures.within c.first_token-kind.ensures.token (sym c.is_at.ensures ∙ c.if-is_at.false),
  λ is. absurd (cc),
)

pub returns-after-loop-at-clause-run : goal.returns-after-loop-at-clause-run
returns-after-loop-at-clause-run c = (end_at _ _ _ _ c.loop-at.invariant.0 (omega (arith, c.loop-at-test.false))).0

pub returns-after-loop-at-clause-stop : goal.returns-after-loop-at-clause-stop
returns-after-loop-at-clause-stop c = (end_at _ _ _ _ c.loop-at.invariant.0 (omega (arith, c.loop-at-test.false))).1

pub returns-after-loop-at-clause-has_no_escape : goal.returns-after-loop-at-clause-has_no_escape
returns-after-loop-at-clause-has_no_escape c = λ known. none_in_front is_escape _ _ c.loop-at.invariant.0.some (c.loop-at.invariant.1 known)

pub returns-then-is_at-clause-run : goal.returns-then-is_at-clause-run
returns-then-is_at-clause-run c =
    (stop_on (ends_of c.args.until) c.args.is_form c.args.bytes.now c.loop-at.at c.first_token-kind.result.1 (kind_of_token c.first_token-kind.result.0) c.loop-at.invariant.0
    c.first_token-kind.ensures.token (sym c.is_at.ensures ∙ c.if-is_at.true)).0

pub returns-then-is_at-clause-stop : goal.returns-then-is_at-clause-stop
returns-then-is_at-clause-stop c =
    (stop_on (ends_of c.args.until) c.args.is_form c.args.bytes.now c.loop-at.at c.first_token-kind.result.1 (kind_of_token c.first_token-kind.result.0) c.loop-at.invariant.0
    c.first_token-kind.ensures.token (sym c.is_at.ensures ∙ c.if-is_at.true)).1

pub returns-then-is_at-clause-has_no_escape : goal.returns-then-is_at-clause-has_no_escape
returns-then-is_at-clause-has_no_escape c = λ known. none_in_front is_escape _ _ c.loop-at.invariant.0.some (c.loop-at.invariant.1 known)
