use Rattle.std.proofs.Common.{◌≡◌, ap, ◌∙◌, rules}
use Rattle.qs_spec.specs.Config.{are_rejected}
use Rattle.qs_spec.specs.Shape as s
use Rattle.qs_tree.specs.tree.Views.{tree_of}
use Rattle.qs_data.specs.declared.shape.shape.Shape as shape
use Rattle.qs_data.specs.shape.Views.{fields_in, shape_of}
use Rattle.qs_explain.proofs.Faults.{of_struct}
use Rattle.qs_explain.proofs.fields.of_struct.Goals as goal

pub returns-in-Struct : goal.returns-in-Struct
returns-in-Struct c =
    let fs = c.in-Struct.fields in
    let seen : shape_of (shape.Struct fs) ≡ s.Shape.struct s.UnknownKeys.ignored (fields_in fs.items) = search (rules, shape.the_lemmas) in
    of_struct (are_rejected c.args.config.duplicates) (shape_of c.args.shape.now) s.UnknownKeys.ignored (fields_in fs.items) (tree_of c.args.node.now) c.of_fields.result (ap shape_of c.in-Struct.is ∙ seen) c.of_fields.ensures

pub returns-in-StrictStruct : goal.returns-in-StrictStruct
returns-in-StrictStruct c =
    let fs = c.in-StrictStruct.fields in
    let seen : shape_of (shape.StrictStruct fs) ≡ s.Shape.struct s.UnknownKeys.rejected (fields_in fs.items) = search (rules, shape.the_lemmas) in
    of_struct (are_rejected c.args.config.duplicates) (shape_of c.args.shape.now) s.UnknownKeys.rejected (fields_in fs.items) (tree_of c.args.node.now) c.of_fields-in-StrictStruct.result
    (ap shape_of c.in-StrictStruct.is ∙ seen) c.of_fields-in-StrictStruct.ensures
