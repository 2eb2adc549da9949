use Rattle.qs_tree.proofs.Common.{◌≤◌, Bool, Ok, Err, true, false, arith, refl, sym, ap, ap₂, subst, ◌∙◌, ◌+◌, length, tokens, NoValue, left, to_come, grown, uninitialized, AllocatesNothing}
use Rattle.qs_tree.proofs.lemmas.Parsed as parsed
use Rattle.qs_tree.proofs.parsing.parse_with.Goals as goal

-- the empty input
pub returns-then-is_empty-clause-parsed : goal.returns-then-is_empty-clause-parsed
returns-then-is_empty-clause-parsed c =
    let input = c.args.input.now in
    let is_form = c.args.config.is_form in
    let depth = c.args.config.max_depth in
    let tree = parsed.empty_tree is_form depth input (sym c.is_empty.ensures ∙ c.if-is_empty.true) in
    record {
      tree = tree;
      no_tree = λ h. absurd h;
      accepted = λ t h. tt;
      rejected = λ none. absurd (none _ tree);
      position = tt;
      errors = tt;
      no_allocation = λ unallocated. refl;
      borrowed = parsed.borrowed is_form depth input (Ok NoValue) tree;
      leaves = parsed.leaves is_form depth input (Ok NoValue) tree;
      nesting = parsed.nested is_form depth input (Ok NoValue) tree;
      sound = parsed.sound is_form depth input (Ok NoValue) tree;
      equivalent = parsed.equivalent is_form depth input;
      reordered = parsed.reordered is_form depth input (Ok NoValue) tree (λ h. absurd h);
    }

pub returns-in-Ok-clause-parsed : goal.returns-in-Ok-clause-parsed
returns-in-Ok-clause-parsed c =
    parsed.parses c.args.config.is_form c.args.config.max_depth c.args.input.now (sym c.is_empty.ensures ∙ c.if-is_empty.false) c.get_max_depth-max_depth.result (left c.new-cursor.result) c.get_max_depth-max_depth.ensures
    (ap₂ tokens (c.new-cursor.ensures.is_form ∙ c.get_form.ensures) c.new-cursor.ensures.rest) (Ok c.in-Ok.tree) c.in-Ok.ensures.tree (λ unallocated. refl)

pub returns-in-Err-clause-parsed : goal.returns-in-Err-clause-parsed
returns-in-Err-clause-parsed c =
    let input = c.args.input.now in
    let found = grown c.get_max_depth-max_depth.result (left c.new-cursor.result) uninitialized in
    let within = parsed.reports_within c.in-Err.error _ (length input + 1) (omega arith) c.into_error.result c.into_error.ensures in
    let returned = parsed.reported found (length input + 1) c.in-Err.error c.into_error.result c.in-Err.ensures.tree within in
    let no_allocation = λ (unallocated : AllocatesNothing input). c.in-Err.ensures.no_allocation (subst AllocatesNothing (sym c.new-cursor.ensures.rest) unallocated) in
    parsed.parses c.args.config.is_form c.args.config.max_depth input (sym c.is_empty.ensures ∙ c.if-is_empty.false) c.get_max_depth-max_depth.result (left c.new-cursor.result) c.get_max_depth-max_depth.ensures
    (ap₂ tokens (c.new-cursor.ensures.is_form ∙ c.get_form.ensures) c.new-cursor.ensures.rest) (Err c.into_error.result) returned no_allocation

-- the look at the end is one step
at_most_one : (ended : Bool) → to_come ended ≤ 1
at_most_one true = omega arith
at_most_one false = omega arith

pub returns-in-Err-clause-least : goal.returns-in-Err-clause-least
returns-in-Err-clause-least c =
    let before = c.new-cursor.ensures in
    let parsed_all = c.in-Err.ensures in
    let after = c.take_steps-2.ensures in
    parsed.reports_steps c.in-Err.error _ _ _
    (omega (arith, ap length after.rest, ap to_come after.ended, parsed_all.steps, parsed_all.fewer, ap length before.rest, ap to_come before.fresh, at_most_one c.parse_tree-tree.new.cursor.ended))
    c.into_error.result c.into_error.ensures
