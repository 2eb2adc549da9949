use Rattle.std.proofs.Common.{◌≡◌, ◌+◌, ◌++◌, true, drop}
use Rattle.json.specs.Tree.{items_tokens, members_tokens}
use Rattle.qs_tree.specs.internal.tree.NodeCount.{node_count, items_node_count, entries_node_count}
use Rattle.qs_tree.specs.tree.Views.{tree_of, entries_of_map, items_of}
use Rattle.qs_data.specs.read.Entries.{entries_after}
use Rattle.qs_data.specs.read.TreeText.{items_are_text, entries_are_text}
use Rattle.qs_c.specs.Trees.{json_of_items, json_of_values, json_of_entries, are_places, items_have_names, values_have_names, entries_have_names}
use Rattle.qs_c.proofs.trees.+show.Given as goal

abbrev pub invariant-show_items-loop-item : goal.invariant-show_items-loop-item
invariant-show_items-loop-item l =
    let all = items_of l.item-items in
    let rest = items_of (drop l.item-index l.item-items) in
    (l.writer.tokens ++ items_tokens (json_of_items rest) ≡ l.initial.writer.tokens ++ items_tokens (json_of_items all))
    × (items_are_text all ≡ items_are_text rest) × (items_have_names all ≡ items_have_names rest)
    × (l.writer.before ≡ l.initial.writer.before)

abbrev pub invariant-show_values-loop-i : goal.invariant-show_values-loop-i
invariant-show_values-loop-i l =
    let all = entries_of_map l.map in
    let rest = entries_after l.i all in
    (l.writer.tokens ++ items_tokens (json_of_values rest) ≡ l.initial.writer.tokens ++ items_tokens (json_of_values all))
    × (entries_are_text all ≡ entries_are_text rest) × (values_have_names all ≡ values_have_names rest) × (are_places l.i rest ≡ true)
    × (l.writer.before ≡ l.initial.writer.before)

abbrev pub invariant-show_entries-loop-i : goal.invariant-show_entries-loop-i
invariant-show_entries-loop-i l =
    let all = entries_of_map l.map in
    let rest = entries_after l.i all in
    (l.writer.tokens ++ members_tokens (json_of_entries rest) ≡ l.initial.writer.tokens ++ members_tokens (json_of_entries all))
    × (entries_are_text all ≡ entries_are_text rest) × (entries_have_names all all ≡ entries_have_names all rest)
    × (l.writer.before ≡ l.initial.writer.before)

abbrev pub decreases-show : goal.decreases-show
decreases-show l = node_count (tree_of l.node.now)

abbrev pub decreases-show_items : goal.decreases-show_items
decreases-show_items l = items_node_count (items_of l.items.now.items) + 1

abbrev pub decreases-show_values : goal.decreases-show_values
decreases-show_values l = entries_node_count (entries_of_map l.map.now) + 1

abbrev pub decreases-show_entries : goal.decreases-show_entries
decreases-show_entries l = entries_node_count (entries_of_map l.map.now) + 1
