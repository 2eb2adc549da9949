use Rattle.std.proofs.Common.{◌+◌, ◌≡◌, true, subst}
use Rattle.std.specs.Bool.{MatchBool}
use Rattle.std.specs.Str.{is_utf8}
use Rattle.serde.specs.Names.{Finds, NoneBelow}
use Rattle.serde.proofs.Finding.{first_or_past}
use Rattle.qs_serde.proofs.Names.{beside}
use Rattle.qs_serde.specs.Lookups.{FindsText}
use Rattle.qs_serde.proofs.reading.names.find_same.Goals as goal

pub returns-then-branch : goal.returns-then-branch
unfolding FindsText
returns-then-branch c =
    let names = c.args.names.now in
    let text = c.args.text.now in
    subst (λ b. MatchBool b (Finds names text c.loop-at.at × (is_utf8 text ≡ true)) (NoneBelow names text (c.loop-at.at + 1))) c.if-branch.true
    (beside _ _ _ c.in_ok-is_same.field-0 (first_or_past c.in_ok-is_same.field-0 names text c.loop-at.at _ c.loop-at-test.true c.loop-at.invariant c.in_ok-is_same.ensures.stands) c.in_ok-is_same.ensures.utf8)
