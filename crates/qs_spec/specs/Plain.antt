-- Plain data: its entries can be read back in any order.
use Rattle.std.specs.Prelude.{ℕ, ◌+◌, Bool, true, false, not, ◌&&◌, ◌||◌, nat_le, List, [], ◌∷◌, Option, Some, None}
use Rattle.std.specs.List.{list_any}
use Rattle.std.specs.Str.{bytes_eq}
use Rattle.qs_spec.specs.Token.{is_bracket}
use Rattle.qs_spec.specs.Scalar.{is_numeral, has_leading_zero}
use Rattle.qs_spec.specs.Data.{Data, Values, no_values, one_value, Pairs, no_pairs, one_pair, Members, no_members, one_member}
use Rattle.qs_spec.specs.Entry.{key_text}

-- at least one byte
abbrev pub has_bytes : List ℕ → Bool
has_bytes [] = false
has_bytes (b ∷ s) = true

-- a name that is read back: at least one byte, no digits after a leading zero, and in form mode no bracket
abbrev pub is_plain_name : Bool → List ℕ → Bool
is_plain_name is_form s = has_bytes s && not (is_numeral s && has_leading_zero s) && not (is_form && list_any is_bracket s)

-- an option, also within newtypes
abbrev pub is_optional : Data → Bool
is_optional Data.none = true
is_optional (Data.some d) = true
is_optional (Data.newtype d) = is_optional d
is_optional _ = false

-- if a key has a text, that is such a name
abbrev pub is_plain_text : Bool → Option (List ℕ) → Bool
is_plain_text is_form None = false
is_plain_text is_form (Some t) = is_plain_name is_form t

-- a key is a boolean, a whole number, a character, a text or a unit variant, with such a text
abbrev pub is_plain_key : Bool → Data → Bool
is_plain_key is_form (Data.bytes b) = false
is_plain_key is_form k = is_plain_text is_form (key_text k)

-- the text of a key is this one
abbrev pub is_text_of : List ℕ → Option (List ℕ) → Bool
is_text_of t None = false
is_text_of t (Some u) = bytes_eq u t

-- the text of one of the keys is this one
abbrev pub is_written_key : Option (List ℕ) → Pairs → Bool
is_written_key None ps = false
is_written_key (Some t) no_pairs = false
is_written_key (Some t) (one_pair k d ps) = is_text_of t (key_text k) || is_written_key (Some t) ps

-- a field has this name
abbrev pub is_member_name : List ℕ → Members → Bool
is_member_name name no_members = false
is_member_name name (one_member n d ms) = bytes_eq n name || is_member_name name ms

-- no two keys have one text
abbrev pub written_keys_differ : Pairs → Bool
written_keys_differ no_pairs = true
written_keys_differ (one_pair k d ps) = not (is_written_key (key_text k) ps) && written_keys_differ ps

-- no two fields have one name
abbrev pub member_names_differ : Members → Bool
member_names_differ no_members = true
member_names_differ (one_member n d ms) = not (is_member_name n ms) && member_names_differ ms

-- at least one field
abbrev pub has_members : Members → Bool
has_members no_members = false
has_members (one_member n d ms) = true

-- at least one element
abbrev pub has_values : Values → Bool
has_values no_values = false
has_values (one_value d ds) = true

-- how many elements there are
abbrev pub count : Values → ℕ
count no_values = 0
count (one_value d ds) = count ds + 1

-- no more than there are indices
abbrev pub are_few : Values → Bool
are_few ds = nat_le (count ds) 4294967295

-- Options hold no options, structs and variants have parts, names and keys are plain and distinct, and lists have an index for each
-- element.
abbrev mutual
  pub is_plain : Bool → Data → Bool
  is_plain is_form Data.unit = true
  is_plain is_form Data.none = true
  is_plain is_form (Data.some d) = not (is_optional d) && is_plain is_form d
  is_plain is_form (Data.boolean b) = true
  is_plain is_form (Data.unsigned n) = true
  is_plain is_form (Data.signed n) = true
  is_plain is_form (Data.character c) = true
  is_plain is_form (Data.text t) = true
  is_plain is_form (Data.bytes b) = true
  is_plain is_form (Data.sequence ds) = are_few ds && are_plain is_form ds
  is_plain is_form (Data.tuple ds) = are_few ds && are_plain is_form ds
  is_plain is_form (Data.mapping ps) = written_keys_differ ps && are_plain_pairs is_form ps
  is_plain is_form (Data.struct ms) = has_members ms && member_names_differ ms && are_plain_members is_form ms
  is_plain is_form (Data.newtype d) = is_plain is_form d
  is_plain is_form (Data.unit_variant name) = has_bytes name
  is_plain is_form (Data.newtype_variant name d) = is_plain_name is_form name && is_plain is_form d
  is_plain is_form (Data.tuple_variant name ds) = is_plain_name is_form name && has_values ds && are_few ds && are_plain is_form ds
  is_plain is_form (Data.struct_variant name ms) = is_plain_name is_form name && has_members ms && member_names_differ ms && are_plain_members is_form ms

  pub are_plain : Bool → Values → Bool
  are_plain is_form no_values = true
  are_plain is_form (one_value d ds) = is_plain is_form d && are_plain is_form ds

  pub are_plain_pairs : Bool → Pairs → Bool
  are_plain_pairs is_form no_pairs = true
  are_plain_pairs is_form (one_pair k d ps) = is_plain_key is_form k && is_plain is_form d && are_plain_pairs is_form ps

  pub are_plain_members : Bool → Members → Bool
  are_plain_members is_form no_members = true
  are_plain_members is_form (one_member n d ms) = is_plain_name is_form n && is_plain is_form d && are_plain_members is_form ms
