use Rattle.std.proofs.Common.{◌≡◌, false, refl, arith}
use Rattle.qs_c.specs.Found.{found}
use Rattle.qs_c.specs.Notation.{comes, goes_on, wanted}
use Rattle.qs_c.proofs.Found.{cond-false, then-found}
use Rattle.qs_c.proofs.notation.cursor.Cursor.goes_on.Goals as goal

pub returns : goal.returns
unfolding goes_on
returns c =
    let t = c.args.self.now.rest.now in
    let no : comes 44 t ≡ false = grind arith in
    let ended : wanted c.args.sign c.args.reason.now t ≡ found tt c.expect.new.self.rest.now = grind arith in
    cond-false (comes 44 t) _ _ _ no (then-found _ _ _ tt c.expect.new.self.rest.now ended refl)
