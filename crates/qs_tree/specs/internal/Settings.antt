-- The settings of the definitions as settings of a `Config`, and back.
use Rattle.std.specs.Prelude.{◌≡◌, refl}
use Rattle.qs_spec.specs.Config.{Duplicates, take_last, reject, indexed, empty_indexed, unindexed, ArrayFormat as Format}
use Rattle.qs_tree.specs.declared.config.ArrayFormat.{ArrayFormat}
use Rattle.qs_tree.specs.declared.config.ArrayFormat.TheVariants.{Indexed, EmptyIndexed, Unindexed}
use Rattle.qs_tree.specs.declared.config.DuplicateKeyBehavior.{DuplicateKeyBehavior}
use Rattle.qs_tree.specs.declared.config.DuplicateKeyBehavior.TheVariants.{TakeLast, Error}
use Rattle.qs_tree.specs.Settings.{array_format_of, duplicates_of}

-- the inverse of `array_format_of`
abbrev pub array_format_from : Format → ArrayFormat
array_format_from indexed = Indexed
array_format_from empty_indexed = EmptyIndexed
array_format_from unindexed = Unindexed

-- the inverse of `duplicates_of`
abbrev pub duplicates_from : Duplicates → DuplicateKeyBehavior
duplicates_from take_last = TakeLast
duplicates_from reject = Error

-- they are inverses
pub array_format_back : (f : ArrayFormat) → array_format_from (array_format_of f) ≡ f
array_format_back Indexed = refl
array_format_back EmptyIndexed = refl
array_format_back Unindexed = refl

pub duplicates_back : (d : DuplicateKeyBehavior) → duplicates_from (duplicates_of d) ≡ d
duplicates_back TakeLast = refl
duplicates_back Error = refl
