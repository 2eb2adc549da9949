-- How the code compares two values. Being the same is being equal (EqualityLaws.antt).
use Rattle.std.specs.Prelude.{Bool, true, false, ◌&&◌, ◌==◌}
use Rattle.std.specs.Bool.{beq}
use Rattle.std.specs.Ordering.{int_eq}
use Rattle.std.specs.Str.{bytes_eq}
use Rattle.qs_spec.specs.Data.{Data, Values, no_values, one_value, Pairs, no_pairs, one_pair, Members, no_members, one_member}
use Rattle.qs_spec.specs.Data.Data.{unit, none, some, boolean, unsigned, signed, character, text, bytes, sequence, tuple, mapping, struct, newtype, unit_variant, newtype_variant, tuple_variant, struct_variant}

-- two values are the same if they are of the same kind and hold the same: the same parts, by the same names, in the
-- same order
abbrev mutual
  pub data_same : Data → Data → Bool
  data_same unit unit = true
  data_same none none = true
  data_same (some d) (some e) = data_same d e
  data_same (boolean b) (boolean c) = beq b c
  data_same (unsigned n) (unsigned m) = n == m
  data_same (signed y) (signed z) = int_eq y z
  data_same (character c) (character d) = c == d
  data_same (text t) (text u) = bytes_eq t u
  data_same (bytes b) (bytes c) = bytes_eq b c
  data_same (sequence ds) (sequence es) = values_same ds es
  data_same (tuple ds) (tuple es) = values_same ds es
  data_same (mapping ps) (mapping qs) = pairs_same ps qs
  data_same (struct ms) (struct ns) = members_same ms ns
  data_same (newtype d) (newtype e) = data_same d e
  data_same (unit_variant m) (unit_variant n) = bytes_eq m n
  data_same (newtype_variant m d) (newtype_variant n e) = bytes_eq m n && data_same d e
  data_same (tuple_variant m ds) (tuple_variant n es) = bytes_eq m n && values_same ds es
  data_same (struct_variant m ms) (struct_variant n ns) = bytes_eq m n && members_same ms ns
  data_same _ _ = false

  pub values_same : Values → Values → Bool
  values_same no_values no_values = true
  values_same (one_value d ds) (one_value e es) = data_same d e && values_same ds es
  values_same _ _ = false

  pub pairs_same : Pairs → Pairs → Bool
  pairs_same no_pairs no_pairs = true
  pairs_same (one_pair k d ps) (one_pair l e qs) = (data_same k l && data_same d e) && pairs_same ps qs
  pairs_same _ _ = false

  pub members_same : Members → Members → Bool
  members_same no_members no_members = true
  members_same (one_member m d ms) (one_member n e ns) = (bytes_eq m n && data_same d e) && members_same ms ns
  members_same _ _ = false
