use Rattle.qs_tree.proofs.Common.{◌≡◌, is_lt, rules, always_returns_same}
use Rattle.qs_tree.proofs.lemmas.tree.Places.{sorted_adjacent}
use Rattle.qs_tree.proofs.tree.entries.SortedEntries.of_sorted.Goals as goal

pub invariant_of-result : goal.invariant_of-result
invariant_of-result g c =
    let cmp = g.K.Ord.cmp in
    let answer = c.is_sorted_by.ensures.cases (λ x y. is_lt (cmp x.0 y.0)) (always_returns_same _ (λ a r. r ≡ is_lt (cmp a.0.now.0 a.1.0.now.0)) _ (λ a r f k. search rules)) in
    sorted_adjacent g.met.K.Ord.total c.args.items.items (rw c.deref.ensures.value at rw c.if-is_sorted_by.true at answer)

pub returns-then-is_sorted_by-clause-sorted : goal.returns-then-is_sorted_by-clause-sorted
returns-then-is_sorted_by-clause-sorted g c = invariant_of-result g c
