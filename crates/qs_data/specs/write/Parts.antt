-- What a writer wrote of a value, part by part.
use Rattle.std.specs.Prelude.{◌≡◌, ℕ, false, List, [], length, Some, Result}
use Rattle.qs_spec.specs.Config.{Config, element_segment}
use Rattle.qs_spec.specs.Data.{Data, Values, Pairs, Members}
use Rattle.qs_spec.specs.Entry.{Path, Output, entries_at, elements_from, pair_entries, member_entries, deeper, maybe_deeper, and_then}
use Rattle.qs_data.specs.declared.write.stop.Stop.{Stop}
use Rattle.qs_data.specs.declared.write.writer.Writer.{Writer}
use Rattle.qs_data.specs.write.Writes.{StreamState, IsAt, WritesAt, EntersAt, LeavesAt}

-- what a part of a value is written as, under a configuration, at a path
abbrev pub Part : Type 0
Part = Config → Path → Output

-- the entries of data
abbrev pub data_part : Data → Part
data_part d config path = entries_at config.max_depth config.array_format d path

-- the members of a struct, the elements of a list from this index on, and the pairs of a map

abbrev pub members_part : Members → Part
members_part ms config path = member_entries config.max_depth config.array_format ms path

abbrev pub elements_part : ℕ → Values → Part
elements_part i ds config path = elements_from config.max_depth config.array_format i ds path

abbrev pub pairs_part : Pairs → Part
pairs_part ps config path = pair_entries config.max_depth config.array_format ps path

-- a part under one more segment
abbrev pub under : List ℕ → Part → Part
under segment part config path = deeper config.max_depth path segment (part config)

-- a part as the element of this index
abbrev pub element : ℕ → Part → Part
element i part config path = maybe_deeper config.max_depth path (element_segment config.array_format i) (part config)

-- one part and then another, unless the first one has an error
abbrev pub both : Part → Part → Part
both a b config path = and_then (a config path) (b config path)

-- what is known of a writer's text
abbrev pub state_of : Writer → StreamState
state_of w = record { taken = Some w.stream.sink.writer.items; failed = w.stream.sink.failed; writer = 0; started = w.stream.started }

-- Wherever the writer was, all of the part was written after what was written before, and the writer is back there; or the stop says what
-- was written.
pub record WritesPart (result : Result (Unit {0}) Stop) (old new : Writer) (part : Part) : Type 0 where
  pub config : new.config ≡ old.config
  pub writes : WritesAt old.config result (state_of old) (state_of new) old.walk new.walk part

-- a writer that wrote nothing, at the top
pub record IsFresh (config : Config) (w : Writer) : Type 0 where
  pub settings : w.config ≡ config
  pub top : IsAt config [] w.walk
  pub state : state_of w ≡ record { taken = Some []; failed = false; writer = 0; started = false }

-- wherever the writer was, it is under one more segment; its text had this length before
pub record Enters (segment : List ℕ) (len : ℕ) (old new : Writer) : Type 0 where
  pub config : new.config ≡ old.config
  pub state : state_of new ≡ state_of old
  pub before : len ≡ length old.walk.text
  pub within : EntersAt old.config segment old.walk new.walk

-- the writer is where it was before its last segment, if its text had this length there
pub record Leaves (len : ℕ) (old new : Writer) : Type 0 where
  pub config : new.config ≡ old.config
  pub state : state_of new ≡ state_of old
  pub back : LeavesAt old.config len old.walk new.walk
