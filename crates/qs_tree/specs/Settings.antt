-- The settings of a `Config` as settings of the definitions.
use Rattle.qs_spec.specs.Config.{Duplicates, take_last, reject, indexed, empty_indexed, unindexed, ArrayFormat as Format}
use Rattle.qs_tree.specs.declared.config.ArrayFormat.{ArrayFormat}
use Rattle.qs_tree.specs.declared.config.ArrayFormat.TheVariants.{Indexed, EmptyIndexed, Unindexed}
use Rattle.qs_tree.specs.declared.config.DuplicateKeyBehavior.{DuplicateKeyBehavior}
use Rattle.qs_tree.specs.declared.config.DuplicateKeyBehavior.TheVariants.{TakeLast, Error}

-- how the index of an element is written
abbrev pub array_format_of : ArrayFormat → Format
array_format_of Indexed = indexed
array_format_of EmptyIndexed = empty_indexed
array_format_of Unindexed = unindexed

-- how repeated values are handled
abbrev pub duplicates_of : DuplicateKeyBehavior → Duplicates
duplicates_of TakeLast = take_last
duplicates_of Error = reject
