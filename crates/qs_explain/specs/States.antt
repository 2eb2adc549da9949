-- A scan over an input, up to its first error: where its pairs begin and their keys end.
use Rattle.std.specs.Prelude.{ℕ, ◌+◌, ◌-◌, Bool, true, false, ◌&&◌, ◌||◌, ◌==◌, List, [], ◌∷◌, if◌then◌else◌}
use Rattle.qs_explain.specs.declared.state.ByteKind.{ByteKind}
use Rattle.qs_explain.specs.declared.state.ByteKind.TheVariants.{Ampersand, Equals, Open, Close, Other}
use Rattle.qs_explain.specs.declared.state.State.{State}
use Rattle.qs_explain.specs.declared.state.State.TheVariants.{Root, Inside, After, LastFirst, Last, Value}

-- the kind of a byte after two others; in form mode the last byte of `%5B` or `%5D` is a bracket
abbrev pub kind_after : Bool → ℕ → ℕ → ℕ → ByteKind
kind_after is_form b c e =
    if e == 38 then Ampersand else (if e == 61 then Equals
    else (if e == 91 || ((is_form && (b == 37 && c == 53)) && e == 66) then Open
    else (if e == 93 || ((is_form && (b == 37 && c == 53)) && e == 68) then Close else Other)))

-- another pair begins after an `&` outside brackets
abbrev pub begins_after : State → ByteKind → Bool
begins_after (Inside room) k = false
begins_after LastFirst k = false
begins_after Root Ampersand = true
begins_after (After room) Ampersand = true
begins_after Last Ampersand = true
begins_after Value Ampersand = true
begins_after _ _ = false

-- the state after an opening bracket: in it, if another level is allowed, or else `full`
abbrev pub opened : ℕ → State → State
opened room full = if room == 0 then full else Inside (room - 1)

-- the state at the next byte
abbrev pub next_state : ℕ → State → ByteKind → State
next_state depth Root Open = opened depth Root
next_state depth Root Equals = Value
next_state depth Root _ = Root
next_state depth (Inside room) Close = After room
next_state depth (Inside room) _ = Inside room
next_state depth (After room) Open = opened room LastFirst
next_state depth (After room) Equals = Value
next_state depth (After room) Ampersand = Root
next_state depth (After room) _ = After room
next_state depth LastFirst Close = After 0
next_state depth LastFirst _ = Last
next_state depth Last Equals = Value
next_state depth Last Ampersand = Root
next_state depth Last _ = Last
next_state depth Value Ampersand = Root
next_state depth Value _ = Value

-- the state is in the value of a pair
abbrev pub is_value : State → Bool
is_value Value = true
is_value _ = false

-- where the last pair begins; n bytes precede the rest, the last two are b and c, and this is the state at the next byte
abbrev pub start_from : Bool → ℕ → State → (n start b c : ℕ) → List ℕ → ℕ
start_from is_form depth state n start b c [] = start
start_from is_form depth state n start b c (e ∷ rest) =
    start_from is_form depth (next_state depth state (kind_after is_form b c e)) (n + 1) (if begins_after state (kind_after is_form b c e) then n + 1 else start) c e rest

-- the same for a whole input
abbrev pub pair_start : Bool → ℕ → List ℕ → ℕ
pair_start is_form depth input = start_from is_form depth Root 0 0 0 0 input
