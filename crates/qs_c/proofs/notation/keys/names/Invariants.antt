use Rattle.std.proofs.Common.{◌≡◌, ◌-◌, map, length, string_bytes}
use Rattle.qs_c.specs.Found.{before}
use Rattle.qs_c.specs.Notation.{comma_or_parenthesis, listed, name}
use Rattle.qs_c.proofs.notation.keys.names.Given as goal

abbrev pub invariant-loop-at : goal.invariant-loop-at
invariant-loop-at l =
    let all = listed name 41 comma_or_parenthesis in
    let start = l.initial.cursor.rest.now in
    all (length start) start ≡ before (map string_bytes l.names.items) (all (length start - l.at) l.cursor.rest.now)
