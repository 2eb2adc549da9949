-- Where the code is after each step of its writer.
use Rattle.qs_data.proofs.Common.{◌≡◌, ℕ, Bool, true, false, cond, List, [], ◌∷◌, ◌++◌, ◌+◌, length, option_map, refl, sym, ap, ◌∙◌, subst, ap₂, arith, ◌⊎◌, inl, inr, Option, Some, None, Result, Ok, Err, append-nil, le-ltb, nat_lt, false≢true, Config, Path, Entry, EntryError, Output, nothing, one, failure, too_deep, bad_key, length-append, StreamState, Adds, IsAt, EntersAt, Part, Writes, WritesAt, WritesPart, state_of}
use Rattle.qs_spec.specs.Written.{written}
use Rattle.qs_data.specs.write.Writes.{Stops as WriteStops}
use Rattle.std.specs.Prelude.{is_some, option_to_list}
use Rattle.std.proofs.lemmas.Option.{none-some, same_Some}
use Rattle.qs_spec.specs.Entry.{deeper}
use Rattle.qs_data.specs.declared.write.stop.Stop.{Stop}
use Rattle.qs_data.specs.declared.write.stop.Stop.TheVariants.{BadKey, Io, OutOfMemory, TooDeep}
use Rattle.qs_data.specs.declared.write.writer.Writer.{Writer}
use Rattle.qs_data.specs.write.Parts.{Enters, IsFresh, under}
use Rattle.qs_data.proofs.lemmas.write.Wrote.{adds_nothing, adds_then}
use Rattle.qs_serde.specs.declared.writing.frame.Frame.{Frame}
use Rattle.qs_serde.specs.declared.writing.frame.Next.{Next}
use Rattle.qs_serde.specs.declared.writing.frame.Next.TheVariants as n
use Rattle.qs_serde.specs.declared.writing.frame.FrameKind.TheVariants as k
use Rattle.qs_serde.specs.declared.writing.halt.Halt.{Halt}
use Rattle.qs_serde.specs.declared.writing.halt.Halt.TheVariants.{Stopped}
use Rattle.qs_serde.specs.declared.writing.position.Position.{Position}
use Rattle.qs_serde.specs.Sent.{Level, State, start, begun, path_of, path_at, under_part, goes_under, closes, closed, adds, capped, at_value, ends_map, map_ended, map_sent, map_at, opened}
use Rattle.qs_serde.specs.Placed.{AreAround, Arrives, Goes, Holds, IsIn, IsLevel, IsMemory, PartIs, Stands, Stops, blank}

-- a writer that wrote nothing
pub holds_fresh : (config : Config) (w : Writer) → IsFresh config w → Holds config w []
holds_fresh config w f = record { settings = f.settings; adds = subst (λ t. Adds config.is_form blank t []) (sym f.state) (adds_nothing config.is_form blank) }

pub stands_fresh : (config : Config) (p : Position) → IsFresh config p.writer → p.frame ≡ record { kind = k.Top; count = 0; part = None } → p.around ≡ [] → p.next ≡ n.Value → Stands config p start
stands_fresh config p f frame around next = record {
  holds = holds_fresh config p.writer f;
  next = next;
  walk = f.top;
  here = subst (λ (g : Frame). IsLevel config.is_form [] g (begun k.Top)) (sym frame) (record { kind = refl; count = refl; part = tt });
  around = around;
}

-- more entries
pub holds_more : (config : Config) (v w : Writer) (es fs : List Entry) → w.config ≡ v.config → Holds config v es → Adds config.is_form (state_of v) (state_of w) fs → Holds config w (es ++ fs)
holds_more config v w es fs same h a = record { settings = same ∙ h.settings; adds = adds_then config.is_form blank (state_of v) (state_of w) es fs h.adds a }

-- no part of what is open is being written

no_part : (is_form : Bool) (path : Path) (p : Option ℕ) (q : Option (List ℕ)) → is_some p ≡ false → PartIs is_form path p q → q ≡ None
no_part is_form path None None e h = refl
no_part is_form path None (Some x) e h = absurd h
no_part is_form path (Some len) q e h = absurd (false≢true (sym e))

module _ (config : Config) (s : State) (p : Position) (none : is_some p.frame.part ≡ false) (h : Stands config p s) where
  empty : s.here.part ≡ None
  empty = no_part config.is_form (path_of s.around) p.frame.part s.here.part none h.here.part

  around_path : path_at s ≡ path_of s.around
  around_path = ap (λ part. path_of s.around ++ option_to_list part) empty ∙ append-nil (path_of s.around)

  around_walk : IsAt config (path_of s.around) p.writer.walk
  around_walk = subst (λ path. IsAt config path p.writer.walk) around_path h.walk

-- under one more segment
entering : List ℕ → State → State
entering segment s = record s { here = record { kind = s.here.kind; count = s.here.count; part = Some segment } }

abbrev under_by : Bool → List ℕ → State → Option State
under_by deep segment s = cond deep None (Some (record s { here = record { kind = s.here.kind; count = s.here.count; part = Some segment } }))

under_is : (config : Config) (segment : List ℕ) (s : State) (b : Bool) → s.here.part ≡ None → nat_lt config.max_depth (length (path_of s.around)) ≡ b → goes_under config segment s ≡ under_by b segment s
under_is config segment s b none deep = ap (λ part. under_part part config segment s) none ∙ ap (λ d. under_by d segment s) deep

pub entered : (config : Config) (s : State) (p : Position) (segment : List ℕ) (len : ℕ) (w : Writer) → is_some p.frame.part ≡ false → Enters segment len p.writer w → Stands config p s
    → (t : State) × (goes_under config segment s ≡ Some t)
    × Stands config (record { writer = w; frame = record { kind = p.frame.kind; count = p.frame.count; part = Some len }; around = p.around; next = p.next }) t
entered config s p segment len w none e h =
    let at = around_walk config s p none h in
    let within : EntersAt config segment p.writer.walk w.walk = subst (λ (c : Config). EntersAt c segment p.writer.walk w.walk) h.holds.settings e.within in
    let into = within (path_of s.around) at in (
      record { entries = s.entries; here = record { kind = s.here.kind; count = s.here.count; part = Some segment }; around = s.around; next = s.next },
      under_is config segment s false (empty config s p none h) (le-ltb _ _ into.0),
      record {
        holds = record { settings = e.config ∙ h.holds.settings; adds = subst (λ t. Adds config.is_form blank t s.entries) (sym e.state) h.holds.adds };
        next = h.next;
        walk = into.1;
        here = record { kind = h.here.kind; count = h.here.count; part = e.before ∙ ap length at.text };
        around = h.around;
      },
    )

-- the writer didn't go in: the path is too long, or an allocation failed

abbrev nothing_part : Part
nothing_part config path = nothing

abbrev deep_output : Bool → Output
deep_output deep = cond deep (failure too_deep) nothing

abbrev IsDeep : EntryError → Type 0
IsDeep too_deep = Unit {0}
IsDeep bad_key = ⊥

front_nil : (es fs : List Entry) → [] ≡ es ++ fs → es ≡ []
front_nil [] fs h = refl
front_nil (e ∷ es) fs h = let l = ap length h in absurd (omega (arith, l))

stop_of : (deep : Bool) (e : Stop) (config : Config) (t u : StreamState) → WriteStops e config t u (deep_output deep) → Adds config.is_form t u [] × ((deep ≡ true) ⊎ IsMemory (Stopped e))
unfolding written
stop_of true TooDeep config t u w = (w.1, inl refl)
stop_of false TooDeep config t u w = absurd (none-some too_deep w.0)
stop_of true BadKey config t u w = absurd (subst IsDeep (same_Some too_deep bad_key w.0) tt)
stop_of false BadKey config t u w = absurd (none-some bad_key w.0)
stop_of true Io config t u w = absurd (omega (arith, w.proper))
stop_of false Io config t u w = absurd (omega (arith, w.proper))
stop_of true OutOfMemory config t u w = (subst (Adds config.is_form t u) (front_nil w.front w.rest w.parts) w.adds, inr tt)
stop_of false OutOfMemory config t u w = (subst (Adds config.is_form t u) (front_nil w.front w.rest w.parts) w.adds, inr tt)

module _ (config : Config) (s : State) (p : Position) (segment : List ℕ) (e : Stop) (w : Writer) (none : is_some p.frame.part ≡ false)
    (stays : (x : Part) → WritesPart (Err e) p.writer w (under segment x)) (h : Stands config p s) where
  stopped : Adds config.is_form (state_of p.writer) (state_of w) [] × ((nat_lt config.max_depth (length (path_of s.around)) ≡ true) ⊎ IsMemory (Stopped e))
  unfolding deeper
  stopped =
      let writes : WritesAt config (Err e) (state_of p.writer) (state_of w) p.writer.walk w.walk (under segment nothing_part) =
      subst (λ (k : Config). WritesAt k (Err e) (state_of p.writer) (state_of w) p.writer.walk w.walk (under segment nothing_part)) h.holds.settings (stays nothing_part).writes in
      stop_of (nat_lt config.max_depth (length (path_of s.around))) e config (state_of p.writer) (state_of w) (writes (path_of s.around) (around_walk config s p none h))

  kept : Holds config w s.entries
  kept = subst (Holds config w) (append-nil s.entries) (holds_more config p.writer w s.entries [] (stays nothing_part).config h.holds stopped.0)

  pub not_entered : Stops (goes_under config segment s) (Stopped e) config s.entries (record { writer = w; frame = p.frame; around = p.around; next = p.next })
  not_entered = by stopped.1
    where
      by : (nat_lt config.max_depth (length (path_of s.around)) ≡ true) ⊎ IsMemory (Stopped e) → Stops (goes_under config segment s) (Stopped e) config s.entries (record { writer = w; frame = p.frame; around = p.around; next = p.next })
      by (inl deep) = inl (under_is config segment s true (empty config s p none h) deep, kept)
      by (inr memory) = inr (memory, inl kept)

-- an entry was written

module _ (config : Config) (s : State) (before : Position) (value : Option (List ℕ)) (h : Stands config before s) where
  abbrev mine : Part
  mine config path = one path value

  writes_here : (r : Result (Unit {0}) Stop) (w : Writer) → WritesPart r before.writer w (λ config path. one path value) → Writes r config (path_at s) (state_of before.writer) (state_of w) w.walk (one (path_at s) value)
  writes_here r w p =
      subst (λ (k : Config). WritesAt k r (state_of before.writer) (state_of w) before.writer.walk w.walk (λ config path. one path value)) h.holds.settings p.writes (path_at s) h.walk

  pub wrote : (now : Position) → now ≡ record { writer = now.writer; frame = before.frame; around = before.around; next = before.next }
      → WritesPart (Ok tt) before.writer now.writer (λ config path. one path value) → Stands config now (adds value s)
  wrote now same p =
      let w = writes_here (Ok tt) now.writer p in
      subst (λ (q : Position). Stands config q (adds value s)) (sym same) (record {
        holds = holds_more config before.writer now.writer s.entries (record { path = path_at s; value = value } ∷ []) p.config h.holds w.1;
        next = h.next;
        walk = w.2;
        here = h.here;
        around = h.around;
      })

  out_of_memory : (e : Stop) (t u : StreamState) (path : Path) → WriteStops e config t u (one path value) → IsMemory (Stopped e)
  out_of_memory TooDeep t u path w = absurd (none-some too_deep w.0)
  out_of_memory BadKey t u path w = absurd (none-some bad_key w.0)
  out_of_memory Io t u path w = tt
  out_of_memory OutOfMemory t u path w = tt

  pub failed : (e : Stop) (now last : Writer) → WritesPart (Err e) before.writer now (λ config path. one path value) → IsFresh now.config last
      → IsMemory (Stopped e) × Holds config last []
  failed e now last p fresh =
      let config_is : now.config ≡ config = p.config ∙ h.holds.settings in (
        out_of_memory e (state_of before.writer) (state_of now) (path_at s) (writes_here (Err e) now p),
        holds_fresh config last (subst (λ (k : Config). IsFresh k last) config_is fresh),
      )

-- what comes next

abbrev pub IsComing : Next → Type 0
IsComing n.Value = Unit {0}
IsComing n.Key = Unit {0}
IsComing n.Flattened = Unit {0}
IsComing n.Nothing = ⊥

module _ (config : Config) (s : State) (p : Position) (h : IsIn config p s) where
  pub stands : IsComing p.next → Stands config p s
  stands = by h
    where
      by : IsIn config p s → IsComing p.next → Stands config p s
      by (inl standing) coming = standing
      by (inr stopped) coming = absurd (subst IsComing stopped.0 coming)

  pub stands_at : (m : Next) → IsComing m → p.next ≡ m → Stands config p s
  stands_at m coming is = stands (subst IsComing (sym is) coming)

pub next_is : (config : Config) (s : State) (p : Position) (m : Next) → Stands config p s → p.next ≡ m → s.next ≡ m
next_is config s p m h is = sym h.next ∙ is

pub coming : (config : Config) (s : State) (p : Position) (next : Next) → Stands config p s
    → Stands config (record { writer = p.writer; frame = p.frame; around = p.around; next = next }) (record { entries = s.entries; here = s.here; around = s.around; next = next })
coming config s p next h = record { holds = h.holds; next = refl; walk = h.walk; here = h.here; around = h.around }

-- out of what is open

last_is : {A : Type 0} (xs : List A) (x : A) (ys : List A) (y : A) → xs ++ x ∷ [] ≡ ys ++ y ∷ [] → (xs ≡ ys) × (x ≡ y)
last_is [] x [] y e = (refl, cc)
last_is [] x (z ∷ ys) y e = let l = ap length e in let m = length-append ys (y ∷ []) in absurd (omega (arith, l, m))
last_is (z ∷ xs) x [] y e = let l = ap length e in let m = length-append xs (x ∷ []) in absurd (omega (arith, l, m))
last_is (z ∷ xs) x (v ∷ ys) y e =
    let tails : xs ++ x ∷ [] ≡ ys ++ y ∷ [] = cc in
    let heads : z ≡ v = cc in
    let r = last_is xs x ys y tails in
    (rw heads (ap (λ t. v ∷ t) r.0), r.1)

pub went_out : (config : Config) (s : State) (p : Position) (frame : Frame) (left : List Frame) → is_some p.frame.part ≡ false → p.around ≡ left ++ frame ∷ [] → Stands config p s
    → (t : State) × (closes s ≡ Some t) × Stands config (record { writer = p.writer; frame = frame; around = left; next = p.next }) t
went_out config s p frame left none items h = by s.around refl
  where
    by : (ls : List Level) → s.around ≡ ls → (t : State) × (closes s ≡ Some t) × Stands config (record { writer = p.writer; frame = frame; around = left; next = p.next }) t
    by [] is = let no : p.around ≡ [] = subst (AreAround config.is_form p.around) is h.around in
        let l = ap length (sym no ∙ items) in let m = length-append left (frame ∷ []) in absurd (omega (arith, l, m))
    by (l ∷ ls) is =
        let a = subst (AreAround config.is_form p.around) is h.around in
        let same = last_is a.0 a.1 left frame (sym a.2 ∙ items) in
        let part = empty config s p none h in (
          record { entries = s.entries; here = l; around = ls; next = s.next },
          ap (λ q. closed q s.around s) part ∙ ap (λ m. closed None m s) is,
          record {
            holds = h.holds;
            next = h.next;
            walk = subst (λ path. IsAt config path p.writer.walk) (around_path config s p none h ∙ ap path_of is) h.walk;
            here = subst (λ (f : Frame). IsLevel config.is_form (path_of ls) f l) same.1 a.3;
            around = subst (λ fs. AreAround config.is_form fs ls) same.0 a.4;
          },
        )

pub went_nowhere : (config : Config) (s : State) (p : Position) → is_some p.frame.part ≡ false → p.around ≡ [] → Stands config p s → closes s ≡ None
went_nowhere config s p none empty_around h = by s.around refl
  where
    by : (ls : List Level) → s.around ≡ ls → closes s ≡ None
    by [] is = ap (λ q. closed q s.around s) (empty config s p none h) ∙ ap (λ m. closed None m s) is
    by (l ∷ ls) is =
        let a = subst (AreAround config.is_form p.around) is h.around in
        let k = ap length (sym empty_around ∙ a.2) in let m = length-append a.0 (a.1 ∷ []) in absurd (omega (arith, k, m))

-- a flattened map has ended: its parts are those of the map around it
pub merged : (config : Config) (s : State) (p q : Position) (frame : Frame) (count : ℕ) → IsIn config p s → p.next ≡ n.Value → frame ≡ p.frame → frame.kind ≡ k.Flattened
    → ((h : Stands config p s) → (t : State) × (closes s ≡ Some t) × Stands config q t) → count ≡ capped (q.frame.count + frame.count)
    → (x : State) × (map_ended config s ≡ Some x) × Stands config (record { writer = q.writer; frame = record { kind = q.frame.kind; count = count; part = q.frame.part }; around = q.around; next = q.next }) x
merged config s p q frame count at value same kind goes sum =
    let h = stands_at config s p at n.Value tt value in
    let r = goes h in
    let t = r.0 in
    let kind_is : s.here.kind ≡ k.Flattened = sym h.here.kind ∙ ap (λ (f : Frame). f.kind) (sym same) ∙ kind in
    let counts : count ≡ capped (t.here.count + s.here.count) = sum ∙ ap₂ (λ a b. capped (a + b)) r.2.here.count (ap (λ (f : Frame). f.count) same ∙ h.here.count) in (
      record { entries = t.entries; here = record { kind = t.here.kind; count = capped (t.here.count + s.here.count); part = t.here.part }; around = t.around; next = t.next },
      ap (λ m. at_value m (option_map (ends_map s.here.kind s.here) (closes s))) (next_is config s p n.Value h value) ∙ ap₂ (λ m o. option_map (ends_map m s.here) o) kind_is r.1,
      record {
        holds = r.2.holds;
        next = r.2.next;
        walk = r.2.walk;
        here = record { kind = r.2.here.kind; count = counts; part = r.2.here.part };
        around = r.2.around;
      },
    )

-- a flattened map begins
pub flattened : (config : Config) (s : State) (p q : Position) (r : Result (Unit {0}) Halt) → IsIn config p s → p.next ≡ n.Flattened
    → Goes (λ config s. Some (opened k.Flattened s)) r (record { writer = p.writer; frame = p.frame; around = p.around; next = n.Value }) q → Arrives (map_sent config s) r config s.entries q
flattened config s p q r at is goes =
    let h = stands_at config s p at n.Flattened tt is in
    subst (λ reached. Arrives reached r config s.entries q) (sym (ap (λ m. map_at m config s) (next_is config s p n.Flattened h is)))
    (goes config (record { entries = s.entries; here = s.here; around = s.around; next = n.Value }) (coming config s p n.Value h))
