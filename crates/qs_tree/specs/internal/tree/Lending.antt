-- The entries after a mutable borrow of one value.
use Rattle.std.specs.Prelude.{ℕ, List}
use Rattle.std.specs.Borrow.{Lends, Fml, RattleType, MutBor}
use Rattle.std.specs.declared.cmp.Ord as ord
use Rattle.std.specs.declared.cmp.PartialEq as eq
use Rattle.std.specs.declared.cmp.PartialOrd as partial
use Rattle.qs_tree.specs.internal.tree.Places.{put_value}
use Rattle.qs_tree.specs.contracts.tree.entries.SortedEntries.{the_row}

module _ (K V : RattleType) (G : ord.Ghosts K.Denot) (G' : eq.Ghosts K.Denot) (G'' : partial.Ghosts K.Denot) (s : MutBor (List (K.Denot × V.Denot))) where
  -- once the borrow r ends, the entry at an index has the last value after r
  abbrev pub LendsValue : ℕ → MutBor V.Denot → Fml
  LendsValue at r = Lends (the_row K V G G' G'') V s r (put_value s.now at)
