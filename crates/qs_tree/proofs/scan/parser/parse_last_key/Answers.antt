use Rattle.qs_tree.proofs.Common.{sym, ap, ap₂, ◌∙◌, ◌++◌, raw_of, parsed_segment_of, assigned, ends_last, cut, with_leaf, parsed_value, left, taken}
use Rattle.qs_tree.proofs.lemmas.scan.AfterKeys.{path_more, pair_as}
use Rattle.qs_tree.proofs.scan.parser.parse_last_key.Goals as goal

pub returns-clause-pair : goal.returns-clause-pair
returns-clause-pair c =
    let old = c.args.cursor.now in
    pair_as _ _ c.parse_assigned.result c.parse_assigned.new.cursor c.parse_assigned.new.pair
    (ap₂ (λ p v. with_leaf (assigned p) (parsed_value v))
    (sym (path_more c.args.pair.now.path c.push.new.self c.in_ok-parse_key.field-0 (taken c.args.bracket.position.rest.now old.rest.now ++ raw_of (cut ends_last (left old)).0)
    c.in_ok-push.ensures (c.in_ok-parse_key.ensures.key ∙ ap parsed_segment_of c.run_from.ensures.run)))
    c.run_from.ensures.token)
    c.parse_assigned.ensures.pair
