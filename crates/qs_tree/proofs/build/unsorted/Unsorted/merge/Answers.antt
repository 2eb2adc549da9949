use Rattle.qs_tree.proofs.Common.{nil_from_length, ◌++◌, ◌∷◌, [], length, sym, ap, ◌∙◌, append-nil, append_assoc, arith, false, same_Some, none-some, into_iter_items, add_to_leaves, update, parsed_segment_of_key, leaf_held, entries_held, entries_of_leaves}
use Rattle.qs_tree.proofs.lemmas.build.Unsorted.{added_to_leaves}
use Rattle.qs_tree.proofs.build.unsorted.Unsorted.merge.Goals as goal

pub loop-entry-init : goal.loop-entry-init
loop-entry-init c =
    let given = c.into_iter-entry-iterator.ensures.into_iter_gives in
    record {
      front = [];
      same = ap entries_held c.in_ok-entries.ensures;
      all = ap entries_of_leaves given.0;
      size = omega (arith, given.1, ap length given.0);
    }

pub loop-entry-preserved : goal.loop-entry-preserved
loop-entry-preserved c =
    let entry = c.in-Some.entry in
    let front = c.loop-entry.invariant.front in
    let all = rw c.in-Some.ensures.steps.0 at c.loop-entry.invariant.all in
    let added = rw c.of.ensures at rw c.in-Ok.is at c.add_leaf_at.ensures in
    record {
      front = front ++ entry ∷ [];
      same = same_Some _ _ (sym added ∙ ap (update (parsed_segment_of_key entry.0) (add_to_leaves false (leaf_held entry.1))) c.loop-entry.invariant.same ∙ added_to_leaves front entry.0 entry.1);
      all = rw append_assoc all;
      size = omega (arith, c.loop-entry.invariant.size, ap length c.in-Some.ensures.steps.0, c.in-Some.ensures.steps.1);
    }

pub returns : goal.returns
returns c =
    let front = c.loop-entry.invariant.front in
    let none = nil_from_length (into_iter_items c.loop-entry.entry-iterator) (sym c.loop-entry.invariant.size ∙ c.in-None.ensures.steps.0) in
    c.loop-entry.invariant.same ∙ ap entries_of_leaves (sym (append-nil front)) ∙ rw none at c.loop-entry.invariant.all

pub unreachable-requires : goal.unreachable-requires
unreachable-requires c =
    let entry = c.in-Some.entry in
    let front = c.loop-entry.invariant.front in
    let is = c.in-Err-Conflict.field-0-is in
    let rejected = rw c.of.ensures at c.in-Err-Conflict.ensures in
    let added = ap (update (parsed_segment_of_key entry.0) (add_to_leaves false (leaf_held entry.1))) c.loop-entry.invariant.same ∙ added_to_leaves front entry.0 entry.1 in
    none-some _ (sym (rejected (λ memory. absurd (cc (is, memory)))) ∙ added)
