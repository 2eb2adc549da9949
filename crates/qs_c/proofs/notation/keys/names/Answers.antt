use Rattle.std.proofs.Common.{◌≡◌, ◌+◌, ◌-◌, ◌++◌, [], ◌∷◌, ap, sym, ◌∙◌, map, length, string_bytes, arith}
use Rattle.std.proofs.lemmas.Grind.{common_steps}
use Rattle.qs_c.specs.Found.{found, before}
use Rattle.qs_c.specs.Notation.{comma_or_parenthesis, goes_on, listed, name}
use Rattle.qs_c.proofs.Listing.{before-nil, turn-last, turn-more}
use Rattle.qs_c.proofs.Stopping.{exits, turn-fault, turn-none, turn-sign}
use Rattle.qs_c.proofs.notation.keys.names.Goals as goal

pub loop-at-init : goal.loop-at-init
loop-at-init c =
    let t = c.args.cursor.now.rest.now in
    let all = listed name 41 comma_or_parenthesis in
    let none : length t ≡ length t - 0 = omega arith in
    before-nil (all (length t) t) ∙ ap (λ v. before (map string_bytes v) (all (length t) t)) (sym c.new-names.ensures.items)
    ∙ ap (λ m. before (map string_bytes c.new-names.result.items) (all m t)) none

pub returns-then-not-branch : goal.returns-then-not-branch
returns-then-not-branch c =
    let l = c.loop-at in
    let t = c.args.cursor.now.rest.now in
    let front = map string_bytes l.names.items in
    let n = c.in_ok-name.field-0 in
    let pushed : map string_bytes c.push.new.self.items ≡ front ++ string_bytes n ∷ [] = grind (arith, common_steps) in
    l.invariant ∙ turn-last name 41 comma_or_parenthesis front (length t - l.at) l.cursor.rest.now (string_bytes n) c.name.new.self.rest.now c.goes_on.new.self.rest.now
    (omega arith) (grind arith) (grind arith) ∙ ap (λ ns. found ns c.goes_on.new.self.rest.now) (sym pushed)

pub loop-at-preserved : goal.loop-at-preserved
loop-at-preserved c =
    let l = c.loop-at in
    let t = c.args.cursor.now.rest.now in
    let front = map string_bytes l.names.items in
    let n = c.in_ok-name.field-0 in
    let s = c.goes_on.new.self.rest.now in
    let pushed : map string_bytes c.push.new.self.items ≡ front ++ string_bytes n ∷ [] = grind (arith, common_steps) in
    l.invariant ∙ turn-more name 41 comma_or_parenthesis front (length t - l.at) (length t - (l.at + 1)) l.cursor.rest.now (string_bytes n) c.name.new.self.rest.now s
    (omega arith) (grind arith) (grind arith) ∙ ap (λ ns. before ns (listed name 41 comma_or_parenthesis (length t - (l.at + 1)) s)) (sym pushed)

pub returns-in_err-name : goal.returns-in_err-name
returns-in_err-name c =
    let l = c.loop-at in
    let t = c.args.cursor.now.rest.now in
    let all = listed name 41 comma_or_parenthesis in
    exits (λ names. map string_bytes names.items) c.from_residual.result (name l.cursor.rest.now) (all (length t) t) c.in_err-name.field-0.0 c.name.new.self.rest.now c.from_residual.ensures.1 c.in_err-name.ensures
    (turn-fault name 41 comma_or_parenthesis (all (length t) t) (map string_bytes l.names.items) (length t - l.at) l.cursor.rest.now l.invariant (omega arith))

pub returns-in_err-goes_on : goal.returns-in_err-goes_on
returns-in_err-goes_on c =
    let l = c.loop-at in
    let t = c.args.cursor.now.rest.now in
    let s = c.name.new.self.rest.now in
    let all = listed name 41 comma_or_parenthesis in
    exits (λ names. map string_bytes names.items) c.from_residual-in_err-goes_on.result (goes_on 41 comma_or_parenthesis s) (all (length t) t) c.in_err-goes_on.field-0.0 c.goes_on.new.self.rest.now
    c.from_residual-in_err-goes_on.ensures.1 c.in_err-goes_on.ensures
    (turn-sign name 41 comma_or_parenthesis (all (length t) t) (map string_bytes l.names.items) (length t - l.at) l.cursor.rest.now l.invariant (omega arith) (string_bytes c.in_ok-name.field-0) s c.in_ok-name.ensures)

pub returns : goal.returns
returns c =
    let l = c.loop-at in
    let t = c.args.cursor.now.rest.now in
    turn-none name 41 comma_or_parenthesis (listed name 41 comma_or_parenthesis (length t) t) (map string_bytes l.names.items) (length t - l.at) l.cursor.rest.now l.invariant (omega arith)
