use Rattle.qs_tree.proofs.Common.{◌≡◌, rules, ap, is_lt, key_cmp, always_returns_same, total-law}
use Rattle.std.proofs.lemmas.List.MinMax.{ranks_by}
use Rattle.std.proofs.lemmas.Result.{on_ok_weaker}
use Rattle.qs_tree.proofs.lemmas.build.Unsorted.{is_before, moved_distinct, sorted_leaves}
use Rattle.qs_tree.proofs.build.unsorted.sort.Goals as goal

pub returns-then-branch-clause-same : goal.returns-then-branch-clause-same
returns-then-branch-clause-same c = moved_distinct c.args.leaves.now.items _ c.sort_unstable_by.ensures.permutation (rw c.deref-then-not-are_runs.ensures.value at c.in_ok-have_distinct_keys.ensures c.if-branch.true)

pub returns-clause-same : goal.returns-clause-same
returns-clause-same c =
    let sorted = c.sort_by.ensures in
    let stable = sorted.stable is_before (ranks_by total-law (λ p. p.0)) (always_returns_same _ (λ a r. is_lt r ≡ is_before a.0.now a.1.0.now) _
    (λ a r f k. let h : (r ≡ key_cmp a.0.now.0 a.1.0.now.0) × (f ≡ _) = search rules in (ap is_lt h.0, h.1))) in
    on_ok_weaker c.sort_by.result (λ _. sorted_leaves c.args.leaves.now.items _ sorted.permutation stable) sorted.sorted
