use Rattle.std.proofs.Common.{sym, inl, ◌∙◌}
use Rattle.qs_serde.proofs.Positions.{went_nowhere, went_out}
use Rattle.qs_serde.proofs.writing.position.Position.close.Goals as goal

pub returns-clause-goes : goal.returns-clause-goes
returns-clause-goes c config s h = went_out config s c.args.self.now c.in-Some.frame c.pop.new.self (sym c.is_some.ensures ∙ c.if-is_some.false) c.in-Some.ensures h

pub returns-in_default-clause-goes : goal.returns-in_default-clause-goes
returns-in_default-clause-goes c config s h = inl (went_nowhere config s c.args.self.now (sym c.is_some.ensures ∙ c.if-is_some.false) c.in_default.ensures h, h.holds)
