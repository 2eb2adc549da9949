-- Structs by their fields.
use Rattle.std.specs.Prelude.{◌≡◌, ℕ, ◌==◌, ◌&&◌, true, List, length}
use Rattle.qs_spec.specs.Shape.{Shape, UnknownKeys, Field, fields_of, field_names_differ, are_distinct_fields, is_distinct}
use Rattle.serde_qs.specs.internal.Booleans.{both_hold, both_true}
use Rattle.serde_qs.specs.Records.{are_names, are_text_names}

-- then the struct of the fields is distinct, if each of them is
pub differ : (u : UnknownKeys) (names : List (List ℕ)) (count : ℕ) (fields : List Field) → are_names names count fields ≡ true → are_distinct_fields (fields_of fields) ≡ true
    → is_distinct (Shape.struct u (fields_of fields)) ≡ true
differ u names count fields h parts =
    let fs = fields_of fields in
    let named = both_hold (length names == count) (field_names_differ fs && are_text_names fs) h in
    both_true (both_hold (field_names_differ fs) (are_text_names fs) named.1).0 parts
