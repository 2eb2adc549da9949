-- The first key that isn't allowed, key by key.
use Rattle.std.proofs.Common.{◌≡◌, ℕ, ◌+◌, ◌≤◌, Bool, true, false, cond, List, length, slice_get, Some, None, ap, ◌∙◌}
use Rattle.qs_spec.specs.Segment.{ParsedSegment, segment_text}
use Rattle.qs_spec.specs.Tree.{Tree, Entries}
use Rattle.qs_tree.specs.tree.Views.{entry_list}
use Rattle.qs_data.specs.read.internal.Keys.{entries_after}
use Rattle.qs_data.proofs.lemmas.read.Entries.{after_some, after_none, after_all}
use Rattle.qs_data.specs.failure.Unexpected.{first_other}

module _ (test : List ℕ → Bool) (i : ℕ) (es : Entries) where
  pub other_here : (x : ParsedSegment × Tree) → slice_get (entry_list es) i ≡ Some x → test (segment_text x.0.segment) ≡ false → first_other test (entries_after i es) ≡ Some x.0.segment
  other_here x h differs = ap (first_other test) (after_some i es x h) ∙ ap (λ b. cond b (first_other test (entries_after (i + 1) es)) (Some x.0.segment)) differs

  pub other_later : (x : ParsedSegment × Tree) → slice_get (entry_list es) i ≡ Some x → test (segment_text x.0.segment) ≡ true → first_other test (entries_after i es) ≡ first_other test (entries_after (i + 1) es)
  other_later x h same = ap (first_other test) (after_some i es x h) ∙ ap (λ b. cond b (first_other test (entries_after (i + 1) es)) (Some x.0.segment)) same

  pub other_none : slice_get (entry_list es) i ≡ None → first_other test (entries_after i es) ≡ None
  other_none h = ap (first_other test) (after_none i es h)

  pub other_end : length (entry_list es) ≤ i → first_other test (entries_after i es) ≡ None
  other_end h = ap (first_other test) (after_all i es h)
