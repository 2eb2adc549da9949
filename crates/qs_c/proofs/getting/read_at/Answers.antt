use Rattle.std.proofs.Common.{◌≡◌, sym, rules}
use Rattle.qs_spec.specs.Config.{are_rejected}
use Rattle.qs_spec.specs.Shape as s
use Rattle.qs_tree.specs.tree.Views.{tree_of}
use Rattle.qs_data.specs.declared.shape.shape.Shape as shape
use Rattle.qs_data.specs.shape.Views.{shape_of}
use Rattle.qs_c.specs.Paths.{first_path}
use Rattle.qs_c.proofs.Bytes.{never, unheld}
use Rattle.qs_c.proofs.getting.read_at.Goals as goal

pub returns-in_err-bytes-clause-none : goal.returns-in_err-bytes-clause-none
returns-in_err-bytes-clause-none c =
    let bytes : shape_of shape.Bytes ≡ s.Shape.bytes = search (rules, shape.the_lemmas) in
    let path = first_path (tree_of c.args.path.now) in
    let k = c.in_err-bytes.ensures in
    unheld c.args.config path c.args.input.now (tree_of c.in_ok-tree.tree) c.in_ok-tree.ensures.parsed.tree (tree_of c.in-Some.node.now) (sym c.in-Some.ensures)
    c.from_residual-in_err-bytes.result c.in_err-bytes.field-0.0 (shape_of shape.Bytes) bytes c.from_residual-in_err-bytes.ensures.1 k.related k.errors

pub unreachable-requires : goal.unreachable-requires
unreachable-requires c =
    let bytes : shape_of shape.Bytes ≡ s.Shape.bytes = search (rules, shape.the_lemmas) in
    never (are_rejected c.args.config.duplicates) (shape_of shape.Bytes) (tree_of c.in-Some.node.now) c.in_ok-bytes.field-0 bytes c.in_ok-bytes.ensures.exact c.in_default-2.not-Bytes
