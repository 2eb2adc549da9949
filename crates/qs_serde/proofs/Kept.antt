-- What a serializer keeps of the events that it was sent.
use Rattle.std.proofs.Common.{◌≡◌, ℕ, false, List, [], ◌∷◌, ◌++◌, refl, sym, ap, ◌∙◌, subst, ◌⊎◌, Option, Some, None, Ok, Err, inl, inr}
use Rattle.std.specs.Prelude.{IfSome, option_map, option_and_then}
use Rattle.std.proofs.lemmas.Option.{none-some, same_Some}
use Rattle.std.specs.List.{All}
use mathlib.Core.Logic.{∥∥₁_map}
use Rattle.serde.specs.Event.{Event, Log, boolean, signed, unsigned, single, double, character, text, octets, nothing, unit_variant, seq_begins, seq_ends, map_begins, map_ends, field_key, variant_key, key_begins, key_ends, flattens}
use Rattle.qs_spec.specs.Config.{Config}
use Rattle.qs_spec.specs.Entry.{Entry}
use Rattle.qs_spec.specs.Written.{written}
use Rattle.qs_data.specs.write.Parts.{state_of}
use Rattle.qs_data.specs.write.State.{IsVisible}
use Rattle.qs_serde.specs.declared.writing.frame.FrameKind.TheVariants.{Top}
use Rattle.qs_serde.specs.declared.writing.frame.Next.TheVariants.{Nothing}
use Rattle.qs_serde.specs.declared.writing.halt.Halt.{Halt}
use Rattle.qs_serde.specs.declared.writing.log.Note.{Note}
use Rattle.qs_serde.specs.declared.writing.position.Position.{Position}
use Rattle.qs_serde.specs.Sent.{State, start, begun, sent, all_sent, text_of_sent}
use Rattle.qs_serde.specs.Placed.{Holds, IsIn, Moves, Stands, Stops}
use Rattle.qs_serde.specs.Logged.{then}
use Rattle.qs_serde.specs.Noted.{IsNoted, event_of, noted}
use Rattle.qs_serde.specs.Texts.{AreShown, IsShown, IsTextOf, IsTextOfEntries, IsTextOrNone, Leads}
use Rattle.qs_serde.specs.Noted.{Follows, LeadsTo}

-- one more event

then_all : (config : Config) (es : List Event) (e : Event) (s t : State) → ((u : State) → all_sent config es u ≡ Some s → all_sent config (es ++ e ∷ []) u ≡ Some t)
    → (o : Option State) → option_and_then (all_sent config es) o ≡ Some s → option_and_then (all_sent config (es ++ e ∷ [])) o ≡ Some t
then_all config es e s t more None g = absurd (none-some s g)
then_all config es e s t more (Some u) g = more u g

all_sent-append : (config : Config) (es : List Event) (e : Event) (first s t : State) → all_sent config es first ≡ Some s → sent config e s ≡ Some t → all_sent config (es ++ e ∷ []) first ≡ Some t
all_sent-append config [] e first s t h step = ap (λ o. option_and_then (all_sent config []) o) (ap (sent config e) (same_Some first s h) ∙ step)
all_sent-append config (x ∷ es) e first s t h step = then_all config es e s t (λ u g. all_sent-append config es e u s t g step) (sent config x first) h

shown-append : (es shown : List Event) (x e : Event) → AreShown es shown → IsShown x e → AreShown (es ++ x ∷ []) (shown ++ e ∷ [])
shown-append [] shown x e h s = (e, [], ap (λ l. l ++ e ∷ []) h, s, refl)
shown-append (y ∷ es) shown x e h s = (h.0, h.1 ++ e ∷ [], ap (λ l. l ++ e ∷ []) h.2, h.3, shown-append es h.1 x e h.4 s)

-- after an error no event is written
never_sent : (config : Config) (e : Event) (s : State) → s.next ≡ Nothing → sent config e s ≡ None
never_sent config (boolean b) s h = rw h
never_sent config (signed z) s h = rw h
never_sent config (unsigned m) s h = rw h
never_sent config (single x) s h = refl
never_sent config (double x) s h = refl
never_sent config (character c) s h = rw h
never_sent config (text t) s h = rw h
never_sent config (octets t) s h = rw h
never_sent config nothing s h = rw h
never_sent config (unit_variant name case) s h = rw h
never_sent config (seq_begins len) s h = rw h
never_sent config seq_ends s h = rw h
never_sent config (map_begins len) s h = rw h
never_sent config map_ends s h = rw h
never_sent config (field_key name case) s h = rw h
never_sent config (variant_key name case) s h = rw h
never_sent config key_begins s h = rw h
never_sent config key_ends s h = rw h
never_sent config flattens s h = rw h

extends : (config : Config) (s t : State) (e : Event) (log : Log) (event : Option Event) → IfSome event (λ x. IsShown x e) → sent config e s ≡ Some t → IfSome log (λ es. LeadsTo config es s)
    → IfSome (option_and_then (then log) event) (λ es. LeadsTo config es t)
extends config s t e log None shown step h = tt
extends config s t e None (Some x) shown step h = tt
extends config s t e (Some es) (Some x) shown step (inl h) = inl (h.0 ++ e ∷ [], shown-append es h.0 x e h.1 shown, all_sent-append config h.0 e start s t h.2 step)
extends config s t e (Some es) (Some x) shown step (inr h) = absurd (none-some t (sym (never_sent config e s h.0) ∙ step))

pub follows_on : (config : Config) (log : Log) (note : Note) (before now : Position) (e : Event) (x : Unit {0}) → IsNoted note e → Moves (λ config. sent config e) (Ok x) before now → Follows config log before
    → Follows config (noted log note) now
follows_on config log note before now e x shown moves follows =
    ∥∥₁_map follows (λ w. let m = moves config w.0 w.1 in (m.0, inl m.2, extends config w.0 m.0 e log (event_of note) shown m.1 w.2))

-- after an error

abbrev halted : Position → Position
halted p = record { writer = p.writer; frame = p.frame; around = p.around; next = Nothing }

-- with these entries
abbrev no_next : List Entry → State
no_next es = record { entries = es; here = begun Top; around = []; next = Nothing }

halts : (config : Config) (es : List Event) (s : State) (kept : List Entry) → (kept ≡ s.entries) ⊎ (kept ≡ []) → LeadsTo config es s → LeadsTo config es (no_next kept)
halts config es s kept is (inl leads) = inr (refl, s, leads, is)
halts config es s kept is (inr h) = inr (refl, h.1, h.2, both is h.3) where
  both : (kept ≡ s.entries) ⊎ (kept ≡ []) → (s.entries ≡ h.1.entries) ⊎ (s.entries ≡ []) → (kept ≡ h.1.entries) ⊎ (kept ≡ [])
  both (inr none) k = inr none
  both (inl same) (inl e) = inl (same ∙ e)
  both (inl same) (inr none) = inr (same ∙ none)

stopped : (config : Config) (log : Log) (now : Position) (s : State) (kept : List Entry) → (kept ≡ s.entries) ⊎ (kept ≡ []) → Holds config now.writer kept → IfSome log (λ es. LeadsTo config es s)
    → (t : State) × IsIn config (halted now) t × IfSome log (λ es. LeadsTo config es t)
stopped config None now s kept is holds leads = (no_next kept, inr (refl, refl, holds), tt)
stopped config (Some es) now s kept is holds leads = (no_next kept, inr (refl, refl, holds), halts config es s kept is leads)

pub follows_stop : (config : Config) (log : Log) (before now : Position) (e : Event) (halt : Halt) → Moves (λ config. sent config e) (Err halt) before now → Follows config log before → Follows config log (halted now)
follows_stop config log before now e halt moves follows = ∥∥₁_map follows (λ w. by w.0 (moves config w.0 w.1) w.2)
  where
    by : (s : State) → Stops (sent config e s) halt config s.entries now → IfSome log (λ es. LeadsTo config es s) → (t : State) × IsIn config (halted now) t × IfSome log (λ es. LeadsTo config es t)
    by s (inl same) leads = stopped config log now s s.entries (inl refl) same.1 leads
    by s (inr (memory, inl same)) leads = stopped config log now s s.entries (inl refl) same leads
    by s (inr (memory, inr none)) leads = stopped config log now s [] (inr refl) none leads

-- the text

holds_in : (config : Config) (p : Position) (s : State) → IsIn config p s → Holds config p.writer s.entries
holds_in config p s (inl h) = h.holds
holds_in config p s (inr h) = h.2

some_bytes : (a b : List ℕ) → Some a ≡ Some b → a ≡ b
some_bytes a b h = cc

module _ (config : Config) (log : Log) (p : Position) (bytes : List ℕ) (taken : Some bytes ≡ (state_of p.writer).taken) (follows : Follows config log p) where
  shown_text : (es : List Event) (s : State) → bytes ≡ written config.is_form false s.entries → Leads config es s → (shown : List Event) × AreShown es shown × (text_of_sent config shown ≡ Some bytes)
  shown_text es s is h = (h.0, h.1, ap (option_map (λ (t : State). written config.is_form false t.entries)) h.2 ∙ ap Some (sym is))

  text_is : (s : State) → IsIn config p s → bytes ≡ written config.is_form false s.entries
  text_is s at = some_bytes bytes p.writer.stream.sink.writer.items taken ∙ (holds_in config p s at).adds.text

  pub has_text : ¬ (p.next ≡ Nothing) → IsTextOf config log bytes
  has_text whole = ∥∥₁_map follows (λ w. by w.0 log (text_is w.0 w.1) (goes_on w.0 w.1) w.2)
    where
      goes_on : (s : State) → IsIn config p s → ¬ (s.next ≡ Nothing)
      goes_on s (inl h) none = whole (h.next ∙ none)
      goes_on s (inr h) none = whole h.0

      by : (s : State) (l : Log) → bytes ≡ written config.is_form false s.entries → ¬ (s.next ≡ Nothing) → IfSome l (λ es. LeadsTo config es s)
          → IfSome l (λ es. (shown : List Event) × AreShown es shown × (text_of_sent config shown ≡ Some bytes))
      by s None is on h = tt
      by s (Some es) is on (inl h) = shown_text es s is h
      by s (Some es) is on (inr h) = absurd (on h.0)

  pub has_text_or_none : IsTextOrNone config log bytes
  unfolding written
  has_text_or_none = ∥∥₁_map follows (λ w. by w.0 log (text_is w.0 w.1) w.2)
    where
      by : (s : State) (l : Log) → bytes ≡ written config.is_form false s.entries → IfSome l (λ es. LeadsTo config es s)
          → (bytes ≡ []) ⊎ IfSome l (λ es. (shown : List Event) × AreShown es shown × (text_of_sent config shown ≡ Some bytes))
      by s None is h = inr tt
      by s (Some es) is (inl h) = inr (shown_text es s is h)
      by s (Some es) is (inr (none, t, h, inl same)) = inr (shown_text es t (is ∙ ap (written config.is_form false) same) h)
      by s (Some es) is (inr (none, t, h, inr empty)) = inl (is ∙ ap (written config.is_form false) empty)

  pub has_entries : IsTextOfEntries config bytes
  has_entries = ∥∥₁_map follows (λ w. let is = text_is w.0 w.1 in (w.0.entries, is, subst (All IsVisible) (sym is) (holds_in config p w.0 w.1).adds.visible))

pub follows_start : (config k : Config) (log : Log) (p : Position) → config ≡ k → log ≡ Some [] → Stands config p start → Follows k log p
follows_start config k log p same none h =
    subst (λ c. Follows c log p) same (subst (λ l. Follows config l p) (sym none) ∣ (start, inl h, inl ([], refl, refl)) ∣₁)
