use Rattle.qs_tree.proofs.Common.{◌≡◌, sym, map, rules, segment_of_key, ltb-true, hash_of, always_returns_same, nat_lt}
use Rattle.qs_tree.proofs.lemmas.build.Distinct.{distinct_hashes}
use Rattle.qs_tree.proofs.build.distinct.have_distinct_keys.Goals as goal

pub returns : goal.returns
returns c rises =
    let items : c.in_ok-hashes.hashes.items ≡ map (λ p. hash_of (segment_of_key p.0)) c.args.leaves.now = search rules in
    let answer = c.is_sorted_by.ensures.cases nat_lt (always_returns_same _ (λ a r. r ≡ nat_lt a.0.now a.1.0.now) _ (λ a r f k. search rules)) in
    let rising = rw c.deref.ensures.value at rw rises at answer in
    distinct_hashes c.args.leaves.now _ (rw items at c.sort_unstable.ensures.permutation) (λ k within. ltb-true _ _ (sym (rising k 0 within)))
