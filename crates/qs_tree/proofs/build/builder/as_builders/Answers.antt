use Rattle.qs_tree.proofs.Common.{nil_from_length, ◌∷◌, [], length, sym, ap, ◌∙◌, append-nil, append_assoc, arith, keys_of, into_iter_items, key_cmp, Value}
use Rattle.qs_tree.proofs.lemmas.tree.Places.{sorted_upto, keys-append}
use Rattle.qs_tree.proofs.build.builder.as_builders.Goals as goal

pub loop-entry-init : goal.loop-entry-init
loop-entry-init c =
    let given = c.into_iter-entry-iterator.ensures.into_iter_gives in
    let items = c.into_items-entry-items.ensures in
    record { all = rw (c.in_ok-builders.ensures, given.0, items.all); size = omega (arith, given.1, c.into_items-entry-items.result.ok, ap length given.0); sorted = rw (c.in_ok-builders.ensures, given.0, items.all) items.sorted }

pub push-requires : goal.push-requires
push-requires c =
    let entry = c.in-Some.entry in
    sorted_upto key_cmp (keys_of c.loop-entry.builders) entry.0 (keys_of (into_iter_items c.next.new.self)) (rw c.in-Some.ensures.steps.0 at c.loop-entry.invariant.sorted)

pub loop-entry-preserved : goal.loop-entry-preserved
loop-entry-preserved c =
    let entry = c.in-Some.entry in
    let sorted = rw c.in-Some.ensures.steps.0 at c.loop-entry.invariant.sorted in
    let all = rw c.in-Some.ensures.steps.0 at c.loop-entry.invariant.all in
    record {
      all = rw (c.in_ok-push.ensures.ok, append_assoc) all;
      size = omega (arith, c.loop-entry.invariant.size, ap length c.in-Some.ensures.steps.0, c.in-Some.ensures.steps.1);
      sorted = rw (c.in_ok-push.ensures.ok, keys-append c.loop-entry.builders ((entry.0, Value entry.1) ∷ []), append_assoc) sorted;
    }

pub returns : goal.returns
returns c =
    let none = nil_from_length (into_iter_items c.loop-entry.entry-iterator) (sym c.loop-entry.invariant.size ∙ c.in-None.ensures.steps.0) in
    sym (append-nil _) ∙ rw none at c.loop-entry.invariant.all
