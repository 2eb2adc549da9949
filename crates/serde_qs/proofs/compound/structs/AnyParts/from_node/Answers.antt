use Rattle.std.proofs.Common.{Some, ap, sym, ◌∙◌}
use Rattle.qs_tree.specs.tree.Views.{tree_of}
use Rattle.qs_data.specs.read.Keys.{unknown_of}
use Rattle.qs_data.specs.read.TreeText.{is_text}
use Rattle.qs_data.specs.read.Narrowed.{error_of}
use Rattle.qs_data.proofs.lemmas.read.Errors.{gives_exit}
use Rattle.serde_qs.specs.internal.NodeParts.{members_read}
use Rattle.serde_qs.specs.Records.{texts}
use Rattle.serde_qs.proofs.NodeValues.{struct_read}
use Rattle.serde_qs.proofs.compound.structs.AnyParts.from_node.Goals as goal

pub returns-in_err-fields_of_struct : goal.returns-in_err-fields_of_struct
returns-in_err-fields_of_struct g c =
    let t = g.S.Held.Fields.table in
    let n = tree_of c.args.node.now in
    let reject_duplicates = c.args.reader.reject_duplicates in
    let fs = t.shape (texts c.args.names.now) in
    let m = t.meaning (texts c.args.names.now) in
    record {
      node = gives_exit _ (is_text n) (is_text n) c.from_residual.result (error_of c.in_err-fields_of_struct.field-0.0) (members_read (unknown_of c.unknown.result) reject_duplicates fs m n) _ c.from_residual.ensures.1 c.in_err-fields_of_struct.ensures
          (λ none. sym (struct_read g.S.HoldsFields.unknown reject_duplicates fs m n) ∙ ap (λ u. members_read u reject_duplicates fs m n) (sym c.unknown.ensures) ∙ none) (λ f. f);
    }

pub returns : goal.returns
returns g c =
    let t = g.S.Held.Fields.table in
    let n = tree_of c.args.node.now in
    let reject_duplicates = c.args.reader.reject_duplicates in
    let fs = t.shape (texts c.args.names.now) in
    let m = t.meaning (texts c.args.names.now) in
    record { node = sym (struct_read g.S.HoldsFields.unknown reject_duplicates fs m n) ∙ ap (λ u. members_read u reject_duplicates fs m n) (sym c.unknown.ensures) ∙ c.in_ok-fields_of_struct.ensures ∙ ap (λ x. Some (t.value x)) (sym c.holding.ensures) }
