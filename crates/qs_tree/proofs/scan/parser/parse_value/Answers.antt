use Rattle.std.proofs.Common.{sym, ◌∙◌}
use Rattle.qs_tree.proofs.lemmas.scan.AfterKeys.{no_value_end, no_value_token}
use Rattle.qs_tree.proofs.scan.parser.parse_value.Goals as goal
use Rattle.qs_tree.proofs.scan.parser.parse_value.Goals.{in_default-via-in-Some+else-is_equals, in_default-via-in_default}

pub returns-in_default-clause-leaf : goal.returns-in_default-clause-leaf
returns-in_default-clause-leaf c =
    elim c.in_default.branch [
      | in_default-via-in-Some+else-is_equals w ↦ no_value_token c.args.stop w.in-Some.token c.args.cursor.now w.in-Some.is c.requires.closing (sym w.is_equals.ensures ∙ w.if-is_equals.false)
      | in_default-via-in_default w ↦ no_value_end c.args.stop c.args.cursor.now w.in_default.is c.requires.follows
    ]
