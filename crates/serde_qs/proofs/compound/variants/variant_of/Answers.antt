use Rattle.std.proofs.Common.{◌≡◌, ◌&&◌, rules, sym, ap, ◌∙◌}
use Rattle.std.specs.Option.{option_and_then}
use Rattle.qs_spec.specs.Shape as s
use Rattle.qs_spec.specs.Shape.{variants_of}
use Rattle.qs_spec.specs.Segment.{segment_text}
use Rattle.qs_spec.specs.Tree.Entries.{entry}
use Rattle.qs_spec.specs.Tree.Tree.{mapping}
use Rattle.qs_spec.specs.internal.ReadFunction.{reads}
use Rattle.std.specs.Str.{is_utf8}
use Rattle.qs_tree.specs.declared.tree.value.ParsedValue as value
use Rattle.qs_tree.specs.tree.Views.{entries_of_map, parsed_segment_of_key, tree_of}
use Rattle.qs_data.specs.read.Entries.{entries_after}
use Rattle.qs_data.specs.read.TreeText.{is_text}
use Rattle.qs_data.proofs.lemmas.read.Entries.{after_some}
use Rattle.serde_qs.specs.Records.{texts}
use Rattle.serde_qs.proofs.NodeValues.{widened}
use Rattle.serde_qs.proofs.NodeVariants.{enum_of_key, key_not_text}
use Rattle.serde_qs.proofs.compound.variants.variant_of.Goals as goal

pub returns-in-Some : goal.returns-in-Some
returns-in-Some g c =
    let v = g.V.Variants.table in
    let reject_duplicates = c.args.reader.reject_duplicates in
    let vs = variants_of (v.shape (texts c.args.names.now)) in
    let m = v.meaning (texts c.args.names.now) in
    let es = entries_of_map c.in-Map.map in
    let key = parsed_segment_of_key c.in-Some.key.now in
    let t = tree_of c.in-Some.held.now in
    let least : es ≡ entry key.segment key.escaped t (entries_after 1 es) = after_some 0 es (key, t) (sym c.in-Some.ensures.value) in
    let entries : tree_of (value.Map c.in-Map.map) ≡ mapping es = search (rules, value.the_lemmas) in
    let whole : tree_of c.args.node.now ≡ mapping es = ap tree_of c.in-Map.is ∙ entries in
    widened v.value (is_utf8 (segment_text key.segment) && is_text t) (is_text (tree_of c.args.node.now)) c.under_key.result _ _ c.under_key.ensures
    (ap (option_and_then m) (sym (ap (reads reject_duplicates (s.Shape.enumeration vs)) whole ∙ enum_of_key reject_duplicates vs es (entries_after 1 es) key.segment key.escaped t least)))
    (λ f. ap is_text whole ∙ key_not_text es (entries_after 1 es) key.segment key.escaped t least f)
