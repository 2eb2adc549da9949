use Rattle.std.proofs.Common.{SFits, rules, w64}
use Rattle.std.proofs.lemmas.Int.{to_z-of_z}
use Rattle.serde_qs.proofs.InRange.{signed_made}
use Rattle.serde_qs.proofs.types.signed.number.Goals as goal

pub returns : goal.returns
returns c =
    let fits : SFits w64 c.args.value = search rules in
    signed_made c.args._width _ c.args.value (to_z-of_z w64 c.args.value fits) c.requires
