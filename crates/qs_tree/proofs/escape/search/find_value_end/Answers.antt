use Rattle.qs_tree.proofs.Common.{◌≡◌, ◌+◌, ◌≤◌, true, length, sym, ap, arith, inl, inr, cases_lt, position_or_len_is, is_escape, is_ampersand}
use Rattle.qs_tree.proofs.lemmas.escape.FirstPlace.{none_in_front}
use Rattle.qs_tree.proofs.escape.search.find_value_end.Goals as goal
use Rattle.qs_tree.proofs.escape.search.find_value_end.Goals.{then-run-end, else-run-end}

pub returns-then-end-lt-LANES-clause-first : goal.returns-then-end-lt-LANES-clause-first
returns-then-end-lt-LANES-clause-first c =
    let first = c.run-end.ensures in
    let front = c.loop-at.invariant in
    sym (position_or_len_is is_ampersand c.args.bytes.now (c.loop-at.at + c.run-end.result) 0 (omega (arith, c.loop-at-test.true, c.if-end-lt-LANES.true, front.0))
    (λ k below. elim (cases_lt k c.loop-at.at) [ inl early ↦ front.1 k (omega arith) early | inr late ↦ first.1 k late below ])
    (λ _. first.2 c.if-end-lt-LANES.true))

pub returns-then-end-lt-LANES-clause-has_no_escape : goal.returns-then-end-lt-LANES-clause-has_no_escape
returns-then-end-lt-LANES-clause-has_no_escape c = λ ignoring_escapes.
    let front = c.loop-at.invariant in
    let within : c.loop-at.at + c.run-end.result ≤ length c.args.bytes.now = omega (arith, c.loop-at-test.true, c.if-end-lt-LANES.true, front.0) in
    elim c.if-run-end.branch [
      | then-run-end w ↦ let is = w.has_no_escape-is in absurd (cc)
      | else-run-end w ↦
          let is = w.has_no_escape-is in
          let before : c.loop-at.has_no_escape ≡ true = cc in
          none_in_front is_escape c.args.bytes.now (c.loop-at.at + c.run-end.result) within
          (λ k from to. elim (cases_lt k c.loop-at.at) [ inl early ↦ front.2 before k from early | inr late ↦ c.run.ensures.1 k late (omega (arith, to, w.if-run-end.false)) ])
    ]

pub returns-after-loop-at-2-clause-first : goal.returns-after-loop-at-2-clause-first
returns-after-loop-at-2-clause-first c =
    let front = c.loop-at-2.invariant in
    sym (position_or_len_is is_ampersand c.args.bytes.now c.loop-at-2.at 0 front.0 (λ k below. front.1 k (omega arith) below) (λ lt. absurd (omega (arith, lt, c.loop-at-2-test.false))))

pub returns-then-byte-eq38-clause-first : goal.returns-then-byte-eq38-clause-first
returns-then-byte-eq38-clause-first c =
    let front = c.loop-at-2.invariant in
    sym (position_or_len_is is_ampersand c.args.bytes.now c.loop-at-2.at 0 front.0 (λ k below. front.1 k (omega arith) below) (λ _. ap is_ampersand c.if-byte-eq38.true))
