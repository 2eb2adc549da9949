use Rattle.qs_data.proofs.Common.{arith}
use Rattle.qs_data.proofs.lemmas.data.Counts.{count_is, some_members}
use Rattle.qs_data.proofs.lemmas.data.Levels.{data_of_struct, data_of_struct_variant}
use Rattle.qs_data.proofs.data.plain.+plain.Goals as goal

pub are_plain_items-returns-then-len : goal.are_plain_items-returns-then-len
are_plain_items-returns-then-len t c = Prim.grind (arith, count_is)

pub are_plain_items-returns-else-len : goal.are_plain_items-returns-else-len
are_plain_items-returns-else-len t c = Prim.grind (arith, count_is)

pub are_plain_fields-returns-then-member_names_differ : goal.are_plain_fields-returns-then-member_names_differ
are_plain_fields-returns-then-member_names_differ t c = Prim.grind (arith, some_members)

pub are_plain_fields-returns-else-member_names_differ : goal.are_plain_fields-returns-else-member_names_differ
are_plain_fields-returns-else-member_names_differ t c = Prim.grind (arith, some_members)

pub are_plain_fields-returns-else-not-is_empty : goal.are_plain_fields-returns-else-not-is_empty
are_plain_fields-returns-else-not-is_empty t c = Prim.grind (arith, some_members)

pub is_plain-returns-in-Struct : goal.is_plain-returns-in-Struct
is_plain-returns-in-Struct t c = Prim.grind (arith, data_of_struct)

pub is_plain-returns-then-is_plain_name-3 : goal.is_plain-returns-then-is_plain_name-3
is_plain-returns-then-is_plain_name-3 t c = Prim.grind (arith, data_of_struct_variant)

pub is_plain-returns-else-is_plain_name-3 : goal.is_plain-returns-else-is_plain_name-3
is_plain-returns-else-is_plain_name-3 t c = Prim.grind (arith, data_of_struct_variant)
