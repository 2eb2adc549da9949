-- The texts of scalars.
use Rattle.std.specs.Prelude.{ℕ, List, decimal}
use Rattle.std.specs.Fmt.{signed_decimal}
use Rattle.std.specs.Char.{encode_utf8}
use Rattle.qs_spec.specs.Entry.{boolean_text}
use Rattle.qs_data.specs.declared.write.scalar.Scalar.{Scalar}
use Rattle.qs_data.specs.declared.write.scalar.Scalar.TheVariants.{Bytes, Bool, Unsigned, Signed, Char}

-- the text of a scalar
abbrev pub scalar_text : Scalar → List ℕ
scalar_text (Bytes bytes) = bytes.now
scalar_text (Bool value) = boolean_text value
scalar_text (Unsigned n) = decimal n
scalar_text (Signed n) = signed_decimal n
scalar_text (Char c) = encode_utf8 c
