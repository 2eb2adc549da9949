use Rattle.qs_tree.proofs.Common.{sym, ◌∙◌, left, path_of}
use Rattle.qs_tree.proofs.lemmas.scan.AfterKeys.{pair_as, root_open}
use Rattle.qs_tree.proofs.scan.parser.parse_after_root.Goals as goal

pub returns-in-Some-clause-pair : goal.returns-in-Some-clause-pair
returns-in-Some-clause-pair c =
    pair_as _ _ c.parse_brackets.result c.parse_brackets.new.cursor c.parse_brackets.new.pair
    (root_open c.args.max_depth c.args.key.now c.args.stop c.in-Some.token (left c.args.cursor.now) (path_of c.parse_root.new.path)
    c.in-Some.is (sym c.is_open.ensures ∙ c.if-is_open.true) c.in_ok-parse_root.ensures.path)
    c.parse_brackets.ensures.pair
