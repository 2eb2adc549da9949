use Rattle.std.proofs.Common.{sym, subst, ◌∙◌, arith, MatchBool}
use Rattle.qs_serde.specs.Steps.{Comes, HasNoItem, IsNextName, Leaves}
use Rattle.qs_serde.proofs.reading.format.TreeFormat.go_to_place.Goals as goal

pub returns-then-branch-clause-some : goal.returns-then-branch-clause-some
returns-then-branch-clause-some c kind count field =
    let old = c.args.self.now in
    let new = c.go_to_item.new.self in
    record {
      comes = subst (λ b. MatchBool b (Comes old new) (HasNoItem old × Leaves old new)) c.if-branch.true (c.in_ok-go_to_item.ensures.step kind count);
      field = subst (λ n. IsNextName c.args.names.now n c.in-Some.at) (sym field) c.in-Some.ensures.first;
      next = c.in_ok-go_to_item.ensures.field c.if-branch.true ∙ omega (arith, c.saturating_add-field.ensures, c.in-Some.ensures.index);
    }
