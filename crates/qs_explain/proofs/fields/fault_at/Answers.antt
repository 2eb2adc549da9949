use Rattle.std.proofs.Common.{◌∷◌, ap, sym, subst, ◌∙◌}
use Rattle.qs_spec.specs.Config.{are_rejected}
use Rattle.qs_spec.specs.Segment.Segment.{Str}
use Rattle.qs_tree.specs.tree.Views.{tree_of}
use Rattle.qs_data.specs.declared.failure.failure.Unread.{Unread}
use Rattle.qs_data.specs.declared.shape.shape.Field.{out-Field}
use Rattle.qs_data.specs.data.Views.{data_of}
use Rattle.qs_data.specs.failure.Fails.{Fails}
use Rattle.qs_data.specs.failure.Mismatch.{IsMismatch, path_of}
use Rattle.qs_data.specs.read.Reads.{reads}
use Rattle.qs_data.specs.shape.Views.{shape_of}
use Rattle.qs_data.proofs.lemmas.read.Fields.{field_name, field_shape}
use Rattle.qs_explain.proofs.fields.fault_at.Goals as goal

pub returns-in-Ok : goal.returns-in-Ok
returns-in-Ok c =
    let rd = are_rejected c.args.config.duplicates in
    let n = tree_of c.args.node.now in
    (data_of c.in-Ok.field-0, ap (λ s. reads rd s n) (field_shape c.args.field.now) ∙ c.in-Ok.ensures.exact)

pub returns : goal.returns
returns c =
    let rd = are_rejected c.args.config.duplicates in
    let n = tree_of c.args.node.now in
    let d = c.args.field.now in
    let inner = c.into_inner-mismatch.result.mismatch in
    let taken = ap (λ (u : Unread). u.mismatch) c.into_inner-mismatch.ensures in
    let said : IsMismatch rd (shape_of (out-Field d).shape) n inner = subst (IsMismatch rd (shape_of (out-Field d).shape) n) (sym taken) (subst (Fails rd (shape_of (out-Field d).shape) n) c.in-Err-Unread.field-0-is c.in-Err-Unread.ensures.fails) in
    let named = c.deref.ensures ∙ sym (field_name d) in (
      inner,
      subst (λ s. IsMismatch rd s n inner) (sym (field_shape d)) said,
      c.in_ok-under-in-Err-Unread.ensures.path ∙ ap (λ name. Str name ∷ path_of inner) named,
      c.in_ok-under-in-Err-Unread.ensures.problem,
    )
