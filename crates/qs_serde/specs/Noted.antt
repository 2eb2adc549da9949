-- What a serializer keeps of the events that it was sent; for private clauses.
use Rattle.std.specs.Prelude.{Option, Some, None, IfSome, option_and_then, ◌≡◌, ◌⊎◌, List, []}
use Rattle.serde.specs.Event.{Event, Log, boolean, signed, unsigned, single, double, character, text, octets, nothing, unit_variant, seq_begins, seq_ends, map_begins, map_ends, field_key, variant_key, key_begins, key_ends, flattens}
use Rattle.qs_serde.specs.Logged.{then}
use Rattle.qs_serde.specs.Texts.{IsShown, Leads}
use Rattle.qs_serde.specs.declared.writing.log.Note.{Note}
use Rattle.qs_serde.specs.declared.writing.log.Note.TheVariants as note
use Rattle.qs_spec.specs.Config.{Config}
use Rattle.qs_serde.specs.Sent.{State}
use Rattle.qs_serde.specs.Placed.{IsIn}
use Rattle.qs_serde.specs.declared.writing.frame.Next.TheVariants.{Nothing}
use Rattle.qs_serde.specs.declared.writing.position.Position.{Position}

abbrev pub event_of : Note → Option Event
event_of (note.Bool b) = Some (boolean b)
event_of (note.I64 z) = Some (signed z)
event_of (note.I128 z) = Some (signed z)
event_of (note.U64 n) = Some (unsigned n)
event_of (note.U128 n) = Some (unsigned n)
event_of (note.Single x) = Some (single x)
event_of (note.Double x) = Some (double x)
event_of (note.Char c) = Some (character c)
event_of (note.Text s) = Some (text s.now)
event_of (note.Bytes s) = Some (octets s.now)
event_of note.Unit = Some nothing
event_of (note.UnitVariant s c) = Some (unit_variant s.now c)
event_of (note.BeginSeq n) = Some (seq_begins n)
event_of note.EndSeq = Some seq_ends
event_of (note.BeginMap n) = Some (map_begins n)
event_of note.EndMap = Some map_ends
event_of (note.FieldKey s c) = Some (field_key s.now c)
event_of (note.VariantKey s c) = Some (variant_key s.now c)
event_of note.BeginKey = Some key_begins
event_of note.EndKey = Some key_ends
event_of note.Flatten = Some flattens
event_of note.Printed = None

abbrev pub noted : Log → Note → Log
noted log n = option_and_then (then log) (event_of n)

-- the event may be what the code did for this note
abbrev pub IsNoted : Note → Event → Type 0
IsNoted n shown = IfSome (event_of n) (λ e. IsShown e shown)

-- the events lead to this state; or an event wasn't written, and there are the entries of the events before, or none
abbrev pub LeadsTo : Config → List Event → State → Type 0
LeadsTo config es s = Leads config es s ⊎ ((s.next ≡ Nothing) × (t : State) × Leads config es t × ((s.entries ≡ t.entries) ⊎ (s.entries ≡ [])))

-- the code is in such a state, if the events are known
abbrev pub Follows : Config → Log → Position → Type 0
Follows config log p = ∥ ((s : State) × IsIn config p s × IfSome log (λ es. LeadsTo config es s)) ∥₁
