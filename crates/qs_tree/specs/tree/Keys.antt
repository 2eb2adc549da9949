-- The order of keys, and the equality of keys, values and maps, as the code has them.
use Rattle.std.specs.Prelude.{Bool}
use Rattle.std.specs.declared.cmp.Ordering.{Ordering}
use Rattle.qs_tree.specs.declared.tree.key.Key.{Key}
use Rattle.qs_tree.specs.declared.tree.value.ParsedValue.{ParsedValue}
use Rattle.qs_tree.specs.contracts.tree.key.KeyOrd.TheImpl as key_order
use Rattle.qs_tree.specs.contracts.tree.key.KeyPartialEq.TheImpl as key_equality
use Rattle.qs_tree.specs.contracts.tree.value.ParsedValuePartialEq.TheImpl as value_equality

-- as defined by `Ord` and `PartialEq` of `Key`, and by `PartialEq` of `ParsedValue`
abbrev pub key_cmp : Key → Key → Ordering
key_cmp = key_order.ghosts.cmp

abbrev pub key_eq : Key → Key → Bool
key_eq = key_equality.ghosts.eq

abbrev pub value_eq : ParsedValue → ParsedValue → Bool
value_eq = value_equality.ghosts.eq
