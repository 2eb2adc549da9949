-- The classes of bytes in a shape's text.
use Rattle.std.specs.Prelude.{ℕ, Bool}
use Rattle.qs_c.specs.Notation.{is_blank, is_of_word, is_no_quote}
use Rattle.qs_c.specs.declared.notation.class.Class.{Class}
use Rattle.qs_c.specs.declared.notation.class.Class.TheVariants.{Blank, Word, NoQuote}

-- the byte is in the class
abbrev pub is_in : Class → ℕ → Bool
is_in Blank b = is_blank b
is_in Word b = is_of_word b
is_in NoQuote b = is_no_quote b
