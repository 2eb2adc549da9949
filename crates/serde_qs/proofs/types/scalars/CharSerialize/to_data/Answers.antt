use Rattle.std.proofs.Common.{rules}
use Rattle.std.specs.Char.{IsScalar}
use Rattle.serde_qs.proofs.InRange.{character_made}
use Rattle.serde_qs.proofs.types.scalars.CharSerialize.to_data.Goals as goal

pub returns-clause-exact : goal.returns-clause-exact
returns-clause-exact c = let s : IsScalar c.args.self.now = search rules in character_made c.args.self.now s
