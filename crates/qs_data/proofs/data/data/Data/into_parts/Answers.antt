use Rattle.qs_data.proofs.Common.{arith}
use Rattle.qs_data.proofs.lemmas.data.Weights.{weight_of_map, weight_of_seq, weight_of_struct, weight_of_struct_variant, weight_of_tuple, weight_of_tuple_variant}
use Rattle.qs_data.proofs.data.data.Data.into_parts.Goals as goal

pub returns-in-Seq : goal.returns-in-Seq
returns-in-Seq c = Prim.grind (arith, weight_of_seq)

pub returns-in-Tuple : goal.returns-in-Tuple
returns-in-Tuple c = Prim.grind (arith, weight_of_tuple)

pub returns-in-TupleVariant : goal.returns-in-TupleVariant
returns-in-TupleVariant c = Prim.grind (arith, weight_of_tuple_variant)

pub returns-in-Map : goal.returns-in-Map
returns-in-Map c = Prim.grind (arith, weight_of_map)

pub returns-in-Struct : goal.returns-in-Struct
returns-in-Struct c = Prim.grind (arith, weight_of_struct)

pub returns-in-StructVariant : goal.returns-in-StructVariant
returns-in-StructVariant c = Prim.grind (arith, weight_of_struct_variant)
