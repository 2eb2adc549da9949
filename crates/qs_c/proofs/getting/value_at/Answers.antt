use Rattle.std.proofs.Common.{refl}
use Rattle.qs_tree.specs.tree.Views.{tree_of}
use Rattle.qs_c.specs.Paths.{first_path, IsPath}
use Rattle.qs_c.proofs.Outcomes.{no_value}
use Rattle.qs_c.proofs.getting.value_at.Goals as goal

pub returns-clause-none : goal.returns-clause-none
returns-clause-none c =
    let key = tree_of c.in_ok-path.path in
    let config = c.in_ok-config.config in
    let is : IsPath config c.args.path.now (first_path key) = record {
      tree = key;
      is_tree = c.in_ok-path.ensures.tree;
      is_key = c.in_ok-path.ensures.key;
      segments = refl;
    } in
    no_value c.bytes_at.result config c.args.settings.now (first_path key) c.args.path.now c.args.input.now c.in_ok-config.ensures.config is c.bytes_at.ensures.none
