-- Sorted entries.
use Rattle.std.specs.Prelude.{◌≡◌, ⊤}
use Rattle.std.specs.declared.cmp.Ordering.TheVariants.{Less}
use Rattle.qs_spec.specs.Segment.{Segment, compare_segments}
use Rattle.qs_spec.specs.Tree.{Entries, no_entries, entry}

-- the segment is less than the keys of the entries
abbrev pub IsBefore : Segment → Entries → Type 0
IsBefore s no_entries = ⊤
IsBefore s (entry k escaped t es) = (compare_segments s k ≡ Less) × IsBefore s es

-- the keys are strictly ascending, and therefore distinct
abbrev pub AreOrdered : Entries → Type 0
AreOrdered no_entries = ⊤
AreOrdered (entry k escaped t es) = IsBefore k es × AreOrdered es
