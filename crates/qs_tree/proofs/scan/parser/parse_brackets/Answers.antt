use Rattle.qs_tree.proofs.Common.{◌≡◌, ◌-◌, ◌++◌, List, ◌∷◌, sym, ap, ◌∙◌, arith, refl, append_assoc, Token, raw_of, Pair, Rest, assigned, is_close, ends_last, cut, with_leaf, parsed_value, parsed_brackets, after_close, after_run, kind_of_token, token_of, looks, ended_after, left, from_token, taken, path_of}
use Rattle.qs_tree.proofs.lemmas.scan.AfterKeys.{pair_as, push_found, last_found, rest_left, front_taken, segment_parsed, next_closing, next_open, next_close, next_other, closes}
use Rattle.qs_tree.proofs.scan.parser.parse_brackets.Goals as goal
use Rattle.qs_tree.proofs.scan.parser.parse_brackets.Goals.{In-Some, In_ok-push, In-Some-stop}

-- what the tokens after a bracket give
abbrev brackets : In-Some → List Token → Rest Pair
brackets w = parsed_brackets w.loop-first.room (path_of w.loop-first.pair.path) w.loop-first.bracket.raw.now

-- the first token in it is the next one
opened : (w : In-Some) → brackets w (left w.loop-first.cursor) ≡ brackets w (token_of w.in-Some.first ∷ left w.next.new.self)
opened w = ap (brackets w) w.in-Some.ensures.token

-- the bracket and that token are what was taken since the bracket's position
whole : (w : In-Some) → w.loop-first.bracket.position.rest.now ≡ (w.loop-first.bracket.raw.now ++ (token_of w.in-Some.first).raw) ++ w.next.new.self.rest.now
whole w =
    let bracket = w.loop-first.bracket.raw.now in
    w.loop-first.invariant.follows.0 ∙ ap (λ l. bracket ++ l) w.in-Some.ensures.bytes ∙ sym (append_assoc bracket w.in-Some.first.raw.now w.next.new.self.rest.now)

-- a segment after that
segment : (w : In_ok-push) → parsed_brackets w.loop-first.room (path_of w.loop-first.pair.path) w.loop-first.bracket.raw.now (token_of w.in-Some.first ∷ left w.next.new.self)
    ≡ after_run (parsed_brackets (w.loop-first.room - 1)) (path_of w.push.new.self) (from_token w.run_from.result.1 (left w.run_from.new.self))
segment w =
    let first = token_of w.in-Some.first in
    let now = w.next.new.self in
    let run = w.run_from.ensures.run ∙ ap (λ l. l ++ raw_of (cut is_close (left now)).0) (front_taken w.in-Some.first.position.rest.now first.raw now.rest.now (w.in-Some.ensures.position ∙ w.in-Some.ensures.bytes)) in
    segment_parsed w.loop-first.room w.loop-first.pair.path w.push.new.self w.in_ok-parse_key.field-0 w.loop-first.bracket.raw.now w.run_from.result.0.now first (left now) (from_token w.run_from.result.1 (left w.run_from.new.self)) (omega arith)
    (sym w.is_close.ensures ∙ w.if-is_close.false) run w.run_from.ensures.token w.in_ok-push.ensures w.in_ok-parse_key.ensures.key

-- and its closing bracket
closed : (w : In-Some-stop) → after_run (parsed_brackets (w.loop-first.room - 1)) (path_of w.push.new.self) (from_token w.run_from.result.1 (left w.run_from.new.self))
    ≡ after_close (parsed_brackets (w.loop-first.room - 1)) (path_of w.push.new.self) (left w.run_from.new.self)
closed w = ap (λ o. after_run (parsed_brackets (w.loop-first.room - 1)) (path_of w.push.new.self) (from_token o (left w.run_from.new.self))) w.in-Some-stop.is

pub returns-then-is_close-clause-pair : goal.returns-then-is_close-clause-pair
returns-then-is_close-clause-pair c =
    let path = path_of c.loop-first.pair.path in
    let found = c.loop-first.invariant.found ∙ opened (goal.at.returns-then-is_close-clause-pair c).In-Some in
    pair_as _ _ c.parse_push.result c.parse_push.new.cursor c.parse_push.new.pair
    (found ∙ push_found c.loop-first.room path c.loop-first.bracket.raw.now (token_of c.in-Some.first) (left c.next.new.self) (sym c.is_close.ensures ∙ c.if-is_close.true)) c.parse_push.ensures.pair

pub parse_last_key-requires-clause-follows : goal.parse_last_key-requires-clause-follows
parse_last_key-requires-clause-follows c =
    rest_left c.loop-first.bracket.position.rest.now (c.loop-first.bracket.raw.now ++ (token_of c.in-Some.first).raw) c.next.new.self.rest.now (whole (goal.at.parse_last_key-requires-clause-follows c).In-Some)

pub returns-then-room-eq0-clause-pair : goal.returns-then-room-eq0-clause-pair
returns-then-room-eq0-clause-pair c =
    let w = (goal.at.returns-then-room-eq0-clause-pair c).In-Some in
    let path = path_of c.loop-first.pair.path in
    let bracket = c.loop-first.bracket.raw.now in
    let first = token_of c.in-Some.first in
    let now = c.next.new.self in
    let position = c.loop-first.bracket.position.rest.now in
    let none : c.loop-first.room ≡ 0 = omega arith in
    let run = cut ends_last (left now) in
    pair_as _ _ c.parse_last_key.result c.parse_last_key.new.cursor c.parse_last_key.new.pair
    (c.loop-first.invariant.found ∙ opened w ∙ ap (λ n. parsed_brackets n path bracket (first ∷ left now)) none
    ∙ last_found path bracket (taken position now.rest.now ++ raw_of run.0) first (left now) run.1 (sym c.is_close.ensures ∙ c.if-is_close.false)
    (ap (λ l. l ++ raw_of run.0) (front_taken position (bracket ++ first.raw) now.rest.now (whole w))) refl)
    c.parse_last_key.ensures.pair

pub returns-in_default-stop-clause-pair : goal.returns-in_default-stop-clause-pair
returns-in_default-stop-clause-pair c =
    let at = goal.at.returns-in_default-stop-clause-pair c in
    c.loop-first.invariant.found ∙ opened at.In-Some ∙ segment at.In_ok-push
    ∙ ap (λ o. after_run (parsed_brackets (c.loop-first.room - 1)) (path_of c.push.new.self) (from_token o (left c.run_from.new.self))) c.in_default-stop.is

pub returns-in_default-next-clause-pair : goal.returns-in_default-next-clause-pair
returns-in_default-next-clause-pair c =
    let at = goal.at.returns-in_default-next-clause-pair c in
    let path = path_of c.push.new.self in
    pair_as _ _ c.parse_assigned.result c.parse_assigned.new.cursor c.parse_assigned.new.pair
    (c.loop-first.invariant.found ∙ opened at.In-Some ∙ segment at.In_ok-push ∙ closed at.In-Some-stop ∙ ap (after_close (parsed_brackets (c.loop-first.room - 1)) path) c.in_default-next.ensures.token
    ∙ ap (λ o. with_leaf (assigned path) (parsed_value (from_token o (left c.next-next.new.self)))) (sym c.in_default-next.is))
    c.parse_assigned.ensures.pair

pub returns-in-Ampersand-clause-pair : goal.returns-in-Ampersand-clause-pair
returns-in-Ampersand-clause-pair c =
    let at = goal.at.returns-in-Ampersand-clause-pair c in
    let path = path_of c.push.new.self in
    let token = c.in-Some-next.token in
    pair_as _ _ c.parse_assigned-in-Ampersand.result c.parse_assigned-in-Ampersand.new.cursor c.parse_assigned-in-Ampersand.new.pair
    (c.loop-first.invariant.found ∙ opened at.In-Some ∙ segment at.In_ok-push ∙ closed at.In-Some-stop ∙ ap (after_close (parsed_brackets (c.loop-first.room - 1)) path) c.in-Some-next.ensures.token
    ∙ next_closing (c.loop-first.room - 1) path token (left c.next-next.new.self) (kind_of_token token.kind) refl (closes token.kind c.in-Ampersand.is)
    ∙ ap (λ o. with_leaf (assigned path) (parsed_value (from_token o (left c.next-next.new.self)))) (sym c.in-Some-next.is))
    c.parse_assigned-in-Ampersand.ensures.pair

pub loop-first-preserved : goal.loop-first-preserved
loop-first-preserved c =
    let at = goal.at.loop-first-preserved c in
    let path = path_of c.push.new.self in
    record {
      found = c.loop-first.invariant.found ∙ opened at.In-Some ∙ segment at.In_ok-push ∙ closed at.In-Some-stop ∙ ap (after_close (parsed_brackets (c.loop-first.room - 1)) path) c.in-Some-next.ensures.token
          ∙ next_open (c.loop-first.room - 1) path c.in-Some-next.token (left c.next-next.new.self) (ap kind_of_token c.in-Open.is);
      follows = (c.in-Some-next.ensures.position ∙ c.in-Some-next.ensures.bytes, c.in-Some-next.ensures.ended ∙ c.run_from.ensures.ended ∙ ap (λ o. ended_after o c.next.new.self.ended) c.in-Some-stop.is ∙ c.in-Some.ensures.ended ∙ c.loop-first.invariant.follows.1);
      is_form = c.in-Some-next.ensures.is_form ∙ c.run_from.ensures.is_form ∙ c.in-Some.ensures.is_form ∙ c.loop-first.invariant.is_form;
      shorter = omega (arith, c.in-Some-next.ensures.shorter, c.in-Some.ensures.shorter);
      spent = omega (arith, c.in-Some-next.ensures.cost, c.in-Some.ensures.cost, ap looks c.in-Some-stop.is);
    }

pub returns-in-Close-clause-pair : goal.returns-in-Close-clause-pair
returns-in-Close-clause-pair c =
    let at = goal.at.returns-in-Close-clause-pair c in
    let path = path_of c.push.new.self in
    c.loop-first.invariant.found ∙ opened at.In-Some ∙ segment at.In_ok-push ∙ closed at.In-Some-stop ∙ ap (after_close (parsed_brackets (c.loop-first.room - 1)) path) c.in-Some-next.ensures.token
    ∙ next_close (c.loop-first.room - 1) path c.in-Some-next.token (left c.next-next.new.self) (ap kind_of_token c.in-Close.is)

pub returns-in-Other-clause-pair : goal.returns-in-Other-clause-pair
returns-in-Other-clause-pair c =
    let at = goal.at.returns-in-Other-clause-pair c in
    let path = path_of c.push.new.self in
    c.loop-first.invariant.found ∙ opened at.In-Some ∙ segment at.In_ok-push ∙ closed at.In-Some-stop ∙ ap (after_close (parsed_brackets (c.loop-first.room - 1)) path) c.in-Some-next.ensures.token
    ∙ next_other (c.loop-first.room - 1) path c.in-Some-next.token (left c.next-next.new.self) (ap kind_of_token c.in-Other.is)
