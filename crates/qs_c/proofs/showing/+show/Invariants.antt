use Rattle.std.proofs.Common.{◌≡◌, ◌++◌, drop}
use Rattle.json.specs.Tree.{items_tokens, members_tokens}
use Rattle.qs_data.specs.data.Views.{values_in, pairs_in, members_in}
use Rattle.qs_c.specs.Shown.{json_items, json_pairs, json_members}
use Rattle.qs_c.proofs.showing.+show.Given as goal

abbrev pub invariant-show_items-loop-item : goal.invariant-show_items-loop-item
invariant-show_items-loop-item l =
    (l.writer.tokens ++ items_tokens (json_items (values_in (drop l.item-index l.item-items))) ≡ l.initial.writer.tokens ++ items_tokens (json_items (values_in l.item-items)))
    × (l.writer.before ≡ l.initial.writer.before)

abbrev pub invariant-show_pairs-loop-pair : goal.invariant-show_pairs-loop-pair
invariant-show_pairs-loop-pair l =
    (l.writer.tokens ++ members_tokens (json_pairs (pairs_in (drop l.pair-index l.pair-items))) ≡ l.initial.writer.tokens ++ members_tokens (json_pairs (pairs_in l.pair-items)))
    × (l.writer.before ≡ l.initial.writer.before)

abbrev pub invariant-show_members-loop-member : goal.invariant-show_members-loop-member
invariant-show_members-loop-member l =
    (l.writer.tokens ++ members_tokens (json_members (members_in (drop l.member-index l.member-items))) ≡ l.initial.writer.tokens ++ members_tokens (json_members (members_in l.member-items)))
    × (l.writer.before ≡ l.initial.writer.before)
