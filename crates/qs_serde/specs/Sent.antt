-- What serde's events write: the entries so far, and where the next part of the value goes.
use Rattle.std.specs.Prelude.{ℕ, ◌+◌, ◌-◌, ◌^◌, min, ◌==◌, ◌&&◌, nat_lt, Bool, true, false, cond, is_some, List, [], ◌∷◌, ◌++◌, length, decimal, Option, Some, None, option_map, option_and_then, option_to_list}
use Rattle.std.specs.Fmt.{signed_decimal}
use Rattle.std.specs.Char.{encode_utf8}
use Rattle.qs_spec.specs.Config.{Config, element_segment}
use Rattle.qs_spec.specs.Entry.{Path, Entry, boolean_text}
use Rattle.qs_spec.specs.Written.{written}
use Rattle.serde.specs.Event.{Event, boolean, signed, unsigned, single, double, character, text, octets, nothing, unit_variant, seq_begins, seq_ends, map_begins, map_ends, field_key, variant_key, key_begins, key_ends, flattens}
use Rattle.serde.specs.Spelling.{spelled}
use Rattle.serde.specs.declared.name.NameKind.TheVariants.{Field, Variant}
use Rattle.qs_serde.specs.declared.writing.frame.FrameKind.{FrameKind}
use Rattle.qs_serde.specs.declared.writing.frame.FrameKind.TheVariants as k
use Rattle.qs_serde.specs.declared.writing.frame.Next.{Next}
use Rattle.qs_serde.specs.declared.writing.frame.Next.TheVariants as n

-- a list or a map that is being written, or the top: how many parts it has, and the segment of the part that is being written, if it has
-- one
pub record Level : Type 0 where
  pub kind : FrameKind
  pub count : ℕ
  pub part : Option (List ℕ)

-- the entries so far, what is open and what is open around it, the innermost first, and what comes next
pub record State : Type 0 where
  pub entries : List Entry
  pub here : Level
  pub around : List Level
  pub next : Next

abbrev pub begun : FrameKind → Level
begun kind = record { kind = kind; count = 0; part = None }

abbrev pub start : State
start = record { entries = []; here = begun k.Top; around = []; next = n.Value }

-- the segments of the parts that are being written
abbrev pub path_of : List Level → Path
path_of [] = []
path_of (l ∷ ls) = path_of ls ++ option_to_list l.part

abbrev pub path_at : State → Path
path_at s = path_of (s.here ∷ s.around)

-- under one more segment, for a part of what is open; a path of more segments than the limit isn't extended
abbrev pub under_part : Option (List ℕ) → Config → List ℕ → State → Option State
under_part (Some part) config segment s = None
under_part None config segment s =
    cond (nat_lt config.max_depth (length (path_of s.around))) None (Some (record s { here = record s.here { part = Some segment } }))

abbrev pub goes_under : Config → List ℕ → State → Option State
goes_under config segment s = under_part s.here.part config segment s

-- to the place of a value: an item goes under its index, a member is under its key
abbrev pub under_index : Option (List ℕ) → Config → State → Option State
under_index None config s = Some s
under_index (Some segment) config s = goes_under config segment s

abbrev pub goes_to : FrameKind → Config → State → Option State
goes_to k.Top config s = Some s
goes_to k.Items config s = under_index (element_segment config.array_format s.here.count) config s
goes_to k.Members config s = cond (is_some s.here.part) (Some s) None
goes_to k.Flattened config s = cond (is_some s.here.part) (Some s) None

abbrev pub goes_to_value : Config → State → Option State
goes_to_value config s = goes_to s.here.kind config s

-- a sum, as `usize` has it
abbrev pub capped : ℕ → ℕ
capped m = min m (2 ^ 64 - 1)

-- a part has ended
abbrev pub ends : State → State
ends s = record s { here = record { kind = s.here.kind; count = capped (s.here.count + 1); part = None } }

-- an entry with this value is a part
abbrev pub adds : Option (List ℕ) → State → State
adds value s = record s { entries = s.entries ++ record { path = path_at s; value = value } ∷ [] }

abbrev pub puts : Option (List ℕ) → State → State
puts value s = ends (adds value s)

abbrev pub put_value : Config → Option (List ℕ) → State → Option State
put_value config value s = option_map (puts value) (goes_to_value config s)

-- what an event of a value does, by what comes next

abbrev pub at_value : Next → Option State → Option State
at_value n.Value reached = reached
at_value n.Key reached = None
at_value n.Flattened reached = None
at_value n.Nothing reached = None

-- a value of one text, or a key
abbrev pub text_at : Next → Config → List ℕ → State → Option State
text_at n.Value config bytes s = put_value config (Some bytes) s
text_at n.Key config bytes s = goes_under config bytes s
text_at n.Flattened config bytes s = None
text_at n.Nothing config bytes s = None

abbrev pub text_sent : Config → List ℕ → State → Option State
text_sent config bytes s = text_at s.next config bytes s

-- no value; in the place of a map that is flattened it writes nothing
abbrev pub nothing_at : Next → Config → State → Option State
nothing_at n.Value config s = put_value config None s
nothing_at n.Key config s = None
nothing_at n.Flattened config s = Some (record s { next = n.Value })
nothing_at n.Nothing config s = None

abbrev pub nothing_sent : Config → State → Option State
nothing_sent config s = nothing_at s.next config s

-- lists and maps: they begin inside what is open, which is then around them

abbrev pub opened : FrameKind → State → State
opened kind s = record s { here = begun kind; around = s.here ∷ s.around }

abbrev pub seq_sent : Config → State → Option State
seq_sent config s = at_value s.next (option_map (opened k.Items) (goes_to_value config s))

abbrev pub map_at : Next → Config → State → Option State
map_at n.Value config s = option_map (opened k.Members) (goes_to_value config s)
map_at n.Key config s = None
map_at n.Flattened config s = Some (opened k.Flattened (record s { next = n.Value }))
map_at n.Nothing config s = None

abbrev pub map_sent : Config → State → Option State
map_sent config s = map_at s.next config s

abbrev pub closed : Option (List ℕ) → List Level → State → Option State
closed None [] s = None
closed None (l ∷ ls) s = Some (record s { here = l; around = ls })
closed (Some part) ls s = None

abbrev pub closes : State → Option State
closes s = closed s.here.part s.around s

-- as a part of what was around it: if it has no parts itself, an empty value is written
abbrev pub ends_as : Bool → State → State
ends_as true s = puts (Some []) s
ends_as false s = ends s

abbrev pub seq_ended : Config → State → Option State
seq_ended config s = at_value s.next (option_map (ends_as (s.here.count == 0)) (closes s))

-- an empty map at the top writes nothing, and the parts of a flattened map are parts of the map around it
abbrev pub is_inside : FrameKind → Bool
is_inside k.Top = false
is_inside k.Items = true
is_inside k.Members = true
is_inside k.Flattened = true

abbrev pub map_ends_as : Level → State → State
map_ends_as l s = ends_as (l.count == 0 && is_inside s.here.kind) s

abbrev pub ends_map : FrameKind → Level → State → State
ends_map k.Top l s = map_ends_as l s
ends_map k.Items l s = map_ends_as l s
ends_map k.Members l s = map_ends_as l s
ends_map k.Flattened l s = record s { here = record s.here { count = capped (s.here.count + l.count) } }

abbrev pub map_ended : Config → State → Option State
map_ended config s = at_value s.next (option_map (ends_map s.here.kind s.here) (closes s))

-- keys
abbrev pub key_sent : Config → List ℕ → State → Option State
key_sent config name s = at_value s.next (goes_under config name s)

abbrev pub goes_on : Next → State → Option State
goes_on next s = at_value s.next (Some (record s { next = next }))

abbrev pub key_ended_at : Next → State → Option State
key_ended_at n.Value s = None
key_ended_at n.Key s = Some (record s { next = n.Value })
key_ended_at n.Flattened s = None
key_ended_at n.Nothing s = None

-- Where an event leads, if it may come and no path is too long. A float is sent as a text.
abbrev pub sent : Config → Event → State → Option State
sent config (boolean b) s = text_sent config (boolean_text b) s
sent config (signed z) s = text_sent config (signed_decimal z) s
sent config (unsigned m) s = text_sent config (decimal m) s
sent config (single x) s = None
sent config (double x) s = None
sent config (character c) s = text_sent config (encode_utf8 c) s
sent config (text t) s = text_sent config t s
sent config (octets t) s = text_sent config t s
sent config nothing s = nothing_sent config s
sent config (unit_variant name case) s = text_sent config (spelled case Variant name) s
sent config (seq_begins len) s = seq_sent config s
sent config seq_ends s = seq_ended config s
sent config (map_begins len) s = map_sent config s
sent config map_ends s = map_ended config s
sent config (field_key name case) s = key_sent config (spelled case Field name) s
sent config (variant_key name case) s = key_sent config (spelled case Variant name) s
sent config key_begins s = goes_on n.Key s
sent config key_ends s = key_ended_at s.next s
sent config flattens s = goes_on n.Flattened s

abbrev pub all_sent : Config → List Event → State → Option State
all_sent config [] s = Some s
all_sent config (e ∷ es) s = option_and_then (all_sent config es) (sent config e s)

-- the text that these events have
abbrev pub text_of_sent : Config → List Event → Option (List ℕ)
text_of_sent config es = option_map (λ s. written config.is_form false s.entries) (all_sent config es start)
