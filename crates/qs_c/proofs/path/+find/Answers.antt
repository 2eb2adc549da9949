use Rattle.std.proofs.Common.{◌≡◌, ◌<◌, sym, ap, subst, ◌∙◌, arith, rules}
use Rattle.qs_spec.specs.Holds.{nesting}
use Rattle.qs_spec.specs.Segment.{ParsedSegment}
use Rattle.qs_spec.specs.Tree.{Tree}
use Rattle.qs_spec.specs.Tree.Tree.{mapping}
use Rattle.qs_tree.specs.tree.Views.{tree_of, entries_of_map, parsed_segment_of_key}
use Rattle.qs_tree.specs.declared.tree.value.ParsedValue.{the_lemmas}
use Rattle.qs_c.proofs.Paths.{falls}
use Rattle.qs_c.proofs.path.+find.Goals as goal

pub find-requires : goal.find-requires
find-requires t c =
    let es = entries_of_map c.in-Map.map in
    let x : ParsedSegment × Tree = (parsed_segment_of_key c.in-Some.key.now, tree_of c.in-Some.below.now) in
    let seen : tree_of c.args.path.now ≡ mapping es = ap tree_of c.in-Map.is ∙ search (rules, the_lemmas) in
    let less : nesting x.1 < nesting (tree_of c.args.path.now) = subst (λ (n : Tree). nesting x.1 < nesting n) (sym seen) (falls es x (sym c.in-Some.ensures.value)) in
    (omega (arith, less, c.decreases), tt)
