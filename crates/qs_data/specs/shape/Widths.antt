-- How many bits a number has.
use Rattle.std.specs.Prelude.{ℕ}
use Rattle.qs_data.specs.declared.shape.width.Width.{Width}
use Rattle.qs_data.specs.declared.shape.width.Width.TheVariants.{Bits8, Bits16, Bits32, Bits64}

abbrev pub bits_of : Width → ℕ
bits_of Bits8 = 8
bits_of Bits16 = 16
bits_of Bits32 = 32
bits_of Bits64 = 64
