use Rattle.qs_tree.proofs.Common.{◌∷◌, sym, ◌∙◌, append-nil, append_assoc, keys_of, key_cmp}
use Rattle.qs_tree.proofs.lemmas.tree.Places.{sorted_upto, keys-append}
use Rattle.qs_tree.proofs.build.builder.into_vector.Goals as goal

pub loop-entry-init : goal.loop-entry-init
loop-entry-init c = rw (c.in_ok-entries.ensures, (c.into_iter-entry-iterator.ensures.into_iter_gives).0)

pub push-requires : goal.push-requires
push-requires c =
    let entry = c.in-Some.entry in
    let es = c.loop-entry.entries in
    let rest = c.next.new.self in
    let all = rw c.in-Some.ensures.steps at c.loop-entry.invariant in
    sorted_upto key_cmp (keys_of es) entry.0 (keys_of rest) (rw (← keys-append es (entry ∷ rest), all) c.len.ensures.ordered)

pub loop-entry-preserved : goal.loop-entry-preserved
loop-entry-preserved c = rw (c.in_ok-push.ensures.ok, append_assoc) (rw c.in-Some.ensures.steps at c.loop-entry.invariant)

pub returns : goal.returns
returns c = sym (append-nil _) ∙ rw c.in-None.ensures.steps.0 at c.loop-entry.invariant
