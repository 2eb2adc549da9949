use Rattle.qs_tree.proofs.Common.{◌+◌, ◌<◌, arith, length, inl, inr, sym, ◌∙◌, cases_lt}
use Rattle.qs_tree.proofs.lemmas.escape.FirstPlace.{position-some, position-none}
use Rattle.qs_tree.proofs.escape.search.find_first.Goals as goal

pub returns-then-run-lt-LANES-clause-first : goal.returns-then-run-lt-LANES-clause-first
returns-then-run-lt-LANES-clause-first g c =
    let first = c.run-run.ensures in
    let front = c.loop-at.invariant in
    let inside : c.loop-at.at + c.run-run.result < length c.args.bytes.now = omega (arith, c.loop-at-test.true, c.if-run-lt-LANES.true, front.0) in
    position-some _ _ _ inside
    (λ k from to. elim (cases_lt k c.loop-at.at) [ inl early ↦ front.1 k from early | inr late ↦ first.1 k late to ])
    (first.2 c.if-run-lt-LANES.true)

pub returns-then-has-clause-first : goal.returns-then-has-clause-first
returns-then-has-clause-first g c =
    position-some _ _ _ c.loop-at-2-test.true c.loop-at-2.invariant.1 (sym c.has.ensures ∙ c.if-has.true)

pub returns-clause-first : goal.returns-clause-first
returns-clause-first g c =
    position-none (g.C.Class.contains c.args.class) c.args.bytes.now (λ k from to. c.loop-at-2.invariant.1 k from (omega (arith, to, c.loop-at-2-test.false)))
