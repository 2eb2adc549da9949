use Rattle.qs_tree.proofs.Common.{◌≡◌, ◌≤◌, length, parsed_brackets, left, spent, path_of, Follows}
use Rattle.qs_tree.proofs.scan.parser.parse_brackets.Given as goal

-- what is found after the last bracket is what is found after the first
abbrev pub invariant-loop-first : goal.invariant-loop-first
invariant-loop-first l = record {
  found : parsed_brackets l.fn.max_depth (path_of l.fn.pair.path) l.fn.bracket.raw.now (left l.fn.cursor) ≡ parsed_brackets l.room (path_of l.pair.path) l.bracket.raw.now (left l.cursor);
  follows : Follows l.bracket l.cursor;
  is_form : l.cursor.is_form ≡ l.fn.cursor.is_form;
  shorter : length l.cursor.rest.now ≤ length l.fn.cursor.rest.now;
  spent : spent l.cursor ≡ spent l.fn.cursor;
}

abbrev pub decreases-loop-first : goal.decreases-loop-first
decreases-loop-first l = l.room
