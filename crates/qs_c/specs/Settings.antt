-- The configuration of a caller's settings.
use Rattle.std.specs.Prelude.{ℕ, ◌<◌, ◌⊎◌, ◌==◌, cond, Bool, true, false}
use Rattle.qs_spec.specs.Config.{Config, ArrayFormat, indexed, empty_indexed, unindexed, Duplicates, take_last, reject}
use Rattle.qs_c.specs.declared.settings.Settings.{Settings}

-- the largest `max_depth`
abbrev pub most_levels : ℕ
most_levels = 100

-- 0 is indexed, 1 is empty indexed, and any other number is unindexed
abbrev pub format_of : ℕ → ArrayFormat
format_of n = cond (n == 0) indexed (cond (n == 1) empty_indexed unindexed)

-- several values are rejected, or the last is taken
abbrev pub duplicates_of : Bool → Duplicates
duplicates_of true = reject
duplicates_of false = take_last

-- the configuration of the settings
abbrev pub config_of : Settings → Config
config_of s = record {
  max_depth = s.max_depth;
  is_form = s.form;
  array_format = format_of s.array_format;
  duplicates = duplicates_of s.reject_duplicates;
}

-- a number in the settings is too large
abbrev pub AreNone : Settings → Type 0
AreNone s = (most_levels < s.max_depth) ⊎ ((0 < s.reserved) ⊎ (2 < s.array_format))
