use Rattle.std.proofs.Common.{◌≡◌, ◌<◌, Option, Some, IfSome, option_map, drop, sym, ap, subst, ◌∙◌}
use Rattle.std.specs.Borrow.{Bor}
use Rattle.qs_tree.specs.declared.tree.value.ParsedValue.{ParsedValue}
use Rattle.qs_tree.specs.tree.Views.{tree_of}
use Rattle.qs_data.specs.read.Items.{first_item}
use Rattle.qs_serde.specs.Nodes.{listed}
use Rattle.qs_serde.specs.Places.{value_part}
use Rattle.qs_serde.specs.Steps.{Moves}
use Rattle.qs_serde.specs.declared.reading.format.TreeFormat.{TreeFormat}
use Rattle.qs_serde.proofs.Places.{item_child}
use Rattle.qs_serde.proofs.reading.format.TreeFormat.go_to_item.Goals as goal

pub returns-in-Ok-Some-clause-step : goal.returns-in-Ok-Some-clause-step
returns-in-Ok-Some-clause-step c kind count =
    let old = c.args.self.now in
    let now = c.advance.new.self in
    let here : first_item (drop c.args.frame.next (listed (tree_of old.top.now))) ≡ Some (Some (tree_of c.in-Ok-Some.value.now)) = c.in-Ok-Some.ensures.item ∙ ap (λ (o : Option (Bor ParsedValue)). Some (option_map (λ v. tree_of v.now) o)) c.in-Ok-Some.field-0-is in
    let index : c.args.frame.next < 18446744073709551615 = subst (λ (o : Option (Bor ParsedValue)). IfSome o (λ _. c.args.frame.next < 18446744073709551615)) c.in-Ok-Some.field-0-is c.in-Ok-Some.ensures.index in
    let moves : Moves c.args.frame.next old now = c.advance.ensures.moves kind index (item_child (tree_of old.top.now) (tree_of c.in-Ok-Some.value.now) c.args.frame.next here) in
    let moved = subst (λ i. Moves i old now) (sym count) moves in
    record {
      item = ap (λ i. first_item (drop i (listed (tree_of old.top.now)))) count ∙ here ∙ ap (λ (v : ParsedValue). Some (Some (tree_of v))) (sym c.advance.ensures.node);
      part = c.value_part-self.ensures ∙ ap (λ (f : TreeFormat). value_part f.is_tried) c.advance.ensures.kept;
      moves = record { count = moved.count; kind = moved.kind; around = moved.around; top = moved.top; tried = moved.tried; keeps = moved.keeps };
    }
