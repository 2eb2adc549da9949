use Rattle.qs_data.proofs.Common.{arith}
use Rattle.qs_data.proofs.lemmas.data.Levels.{data_of_map, data_of_struct, data_of_struct_variant}
use Rattle.qs_data.proofs.lemmas.data.Lengths.{other_items, other_members, other_pairs}
use Rattle.qs_data.proofs.data.sameness.+sameness.Goals as goal

pub same_items-returns-then-left-right : goal.same_items-returns-then-left-right
same_items-returns-then-left-right t c = Prim.grind (arith, other_items)

pub same_members-returns-then-left-right : goal.same_members-returns-then-left-right
same_members-returns-then-left-right t c = Prim.grind (arith, other_members)

pub same_pairs-returns-then-left-right : goal.same_pairs-returns-then-left-right
same_pairs-returns-then-left-right t c = Prim.grind (arith, other_pairs)

pub same_data-returns-in-Map-matches : goal.same_data-returns-in-Map-matches
same_data-returns-in-Map-matches t c = Prim.grind (arith, data_of_map)

pub same_data-returns-in_default-matches-11 : goal.same_data-returns-in_default-matches-11
same_data-returns-in_default-matches-11 t c = Prim.grind (arith, data_of_map)

pub same_data-returns-in-Struct-matches : goal.same_data-returns-in-Struct-matches
same_data-returns-in-Struct-matches t c = Prim.grind (arith, data_of_struct)

pub same_data-returns-in_default-matches-12 : goal.same_data-returns-in_default-matches-12
same_data-returns-in_default-matches-12 t c = Prim.grind (arith, data_of_struct)

pub same_data-returns-in-StructVariant-matches : goal.same_data-returns-in-StructVariant-matches
same_data-returns-in-StructVariant-matches t c = Prim.grind (arith, data_of_struct_variant)

pub same_data-returns-in_default-matches-17 : goal.same_data-returns-in_default-matches-17
same_data-returns-in_default-matches-17 t c = Prim.grind (arith, data_of_struct_variant)
