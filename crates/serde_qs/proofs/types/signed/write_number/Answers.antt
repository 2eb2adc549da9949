use Rattle.std.proofs.Common.{SFits, of_z, rules, to_z, w64}
use Rattle.std.proofs.lemmas.Int.{to_z-of_z}
use Rattle.serde_qs.proofs.InRange.{signed_fitting}
use Rattle.serde_qs.proofs.PartsWritten.{signed_written}
use Rattle.serde_qs.proofs.types.signed.write_number.Goals as goal

pub returns : goal.returns
returns c =
    let z = c.args.value in
    let fits : SFits w64 z = search rules in
    signed_written c.scalar.result c.args.writer.now c.scalar.new.self _ (to_z w64 (of_z w64 z)) z (to_z-of_z w64 z fits) (signed_fitting c.args._width z c.requires) c.scalar.ensures
