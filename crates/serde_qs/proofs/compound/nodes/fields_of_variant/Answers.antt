use Rattle.std.proofs.Common.{◌≡◌, sym, ap, ◌∙◌}
use Rattle.qs_spec.specs.Node.{as_map, under_empty}
use Rattle.qs_spec.specs.Tree.Tree.{mapping}
use Rattle.qs_spec.specs.internal.ReadFunction.{struct_members}
use Rattle.qs_tree.specs.tree.Views.{tree_of}
use Rattle.qs_data.specs.read.Keys.{unknown_of}
use Rattle.qs_data.specs.read.TreeText.{entries_are_text, is_text}
use Rattle.qs_data.proofs.lemmas.read.Variants.{text_as_map, under_bad}
use Rattle.serde_qs.specs.internal.NodeParts.{members_read}
use Rattle.serde_qs.specs.Records.{texts}
use Rattle.qs_data.proofs.lemmas.read.ReadErrors.{gives_as}
use Rattle.serde_qs.proofs.compound.nodes.fields_of_variant.Goals as goal

pub returns-in-String : goal.returns-in-String
unfolding struct_members
returns-in-String g c =
    let t = g.F.Fields.table in
    let n = tree_of c.args.node.now in
    let read = members_read (unknown_of c.args.unknown) c.args.reader.reject_duplicates (t.shape (texts c.args.names.now)) (t.meaning (texts c.args.names.now)) in
    let seen : as_map n ≡ mapping (under_empty n) = ap (λ x. as_map (tree_of x)) c.in-String.is ∙ text_as_map c.in-String.field-0 ∙ ap (λ x. mapping (under_empty (tree_of x))) (sym c.in-String.is) in
    gives_as t.value (entries_are_text (under_empty n)) (is_text n) c.read_entries.result _ (read (as_map n)) c.read_entries.ensures (ap read (sym seen)) (under_bad n)
