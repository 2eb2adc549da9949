-- Tests and their parts.
use Rattle.std.proofs.Common.{◌≡◌, Bool, true, false, not, ◌&&◌, ◌||◌, refl}

pub and_both : (x y : Bool) → (x && y) ≡ true → (x ≡ true) × (y ≡ true)
and_both true y e = (refl, e)
and_both false y e = cc

pub or_both : (x y : Bool) → (x || y) ≡ false → (x ≡ false) × (y ≡ false)
or_both true y e = cc
or_both false y e = (refl, e)

pub not_of : (x : Bool) → not x ≡ true → x ≡ false
not_of true e = cc
not_of false e = refl
