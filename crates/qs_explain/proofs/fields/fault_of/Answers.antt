use Rattle.std.proofs.Common.{ap, sym, subst, ◌∙◌}
use Rattle.qs_spec.specs.Config.{are_rejected}
use Rattle.qs_spec.specs.Node.{found}
use Rattle.qs_spec.specs.Shape.{is_option}
use Rattle.qs_tree.specs.tree.Views.{tree_of}
use Rattle.qs_tree.proofs.lemmas.Views.{tree_of-Uninitialized}
use Rattle.qs_data.specs.read.Keys.{entries_view}
use Rattle.qs_data.specs.shape.Views.{field_of}
use Rattle.qs_data.proofs.lemmas.read.Fields.{field_name, field_optional, field_shape}
use Rattle.qs_explain.specs.internal.Parsed.{IsNoFault}
use Rattle.qs_explain.proofs.Faults.{left, of_missing, of_value, right}
use Rattle.qs_explain.proofs.fields.fault_of.Goals.{then-field, else-field}
use Rattle.qs_explain.proofs.fields.fault_of.Goals as goal

pub returns-in-One : goal.returns-in-One
returns-in-One c =
    let d = c.args.field.now in
    let es = entries_view c.args.entries in
    let one = ap (λ name. found name es) (field_name d ∙ sym c.deref.ensures) ∙ c.in-One.ensures in
    of_value (are_rejected c.args.config.duplicates) (field_of d).0 (field_of d).1 (field_of d).2 es (tree_of c.in-One.node.now) c.fault_at.result one c.fault_at.ensures

pub returns-in-Several : goal.returns-in-Several
returns-in-Several c =
    let d = c.args.field.now in
    let es = entries_view c.args.entries in
    let several = ap (λ name. found name es) (field_name d ∙ sym c.deref.ensures) ∙ c.in-Several.ensures.3 in
    subst (IsNoFault (are_rejected c.args.config.duplicates) (field_of d).1 (field_of d).2) (sym several) IsNoFault.named_twice

pub returns-in-Missing : goal.returns-in-Missing
returns-in-Missing c =
    let d = c.args.field.now in
    let es = entries_view c.args.entries in
    let none = ap (λ name. found name es) (field_name d ∙ sym c.deref.ensures) ∙ c.in-Missing.ensures in
    let o = (field_of d).2 in
    let p = is_option (field_of d).1 in
    subst (IsNoFault (are_rejected c.args.config.duplicates) (field_of d).1 o) (sym none) (IsNoFault.left_out (elim c.if-field.branch [
      | then-field w ↦ left o p (field_optional d ∙ w.if-field.true)
      | else-field w ↦ right o p (ap is_option (field_shape d) ∙ sym w.is_option.ensures ∙ sym w.value-is ∙ c.if-is_option.true)
    ]))

pub returns-in-Missing-2 : goal.returns-in-Missing-2
returns-in-Missing-2 c =
    let d = c.args.field.now in
    let es = entries_view c.args.entries in
    let none = ap (λ name. found name es) (field_name d ∙ sym c.deref.ensures) ∙ c.in-Missing-2.ensures in
    elim c.if-field.branch [
      | then-field w ↦ absurd cc
      | else-field w ↦
          let must = field_optional d ∙ w.if-field.false in
          let no_option = ap is_option (field_shape d) ∙ sym w.is_option.ensures ∙ sym w.value-is ∙ c.if-is_option.false in
          of_missing (are_rejected c.args.config.duplicates) (field_of d).0 (field_of d).1 (field_of d).2 es _ c.fault_at-in-Missing-2.result none must no_option tree_of-Uninitialized c.fault_at-in-Missing-2.ensures
    ]
