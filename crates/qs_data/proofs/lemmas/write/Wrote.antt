-- Texts, one after another.
use Rattle.qs_data.proofs.Common.{◌≡◌, ℕ, ◌+◌, Bool, List, [], ◌∷◌, ◌++◌, length, take, refl, sym, ap, ◌∙◌, subst, Option, Some, None, Result, Ok, Err, append_assoc, append-nil, length-append, arith, take-append-add, take-append_seam, take-append-le, All-nil, All-append, Appends-nil, Appends-trans, ◌||◌, All, IsErrAnd, Appends, Config, Path, Entry, Output, follow, and_then, nothing, EntryError, entry_text, has_key, Walk, Stop, Io, OutOfMemory, IsVisible, StreamState, Adds, AddsSome, AddsPart, Stops, Writes, Part, both, WritesAt}
use Rattle.qs_spec.specs.Written.{written, started_after}

pub written-append : (is_form s : Bool) (es fs : List Entry) → written is_form s (es ++ fs) ≡ written is_form s es ++ written is_form (started_after s es) fs
unfolding written started_after
written-append is_form s [] fs = refl
written-append is_form s (e ∷ es) fs =
    ap (λ t. entry_text is_form s e.path e.value ++ t) (written-append is_form (s || has_key e.path) es fs) ∙ sym (append_assoc (entry_text is_form s e.path e.value) _ _)

pub started-append : (s : Bool) (es fs : List Entry) → started_after s (es ++ fs) ≡ started_after (started_after s es) fs
unfolding started_after
started-append s [] fs = refl
started-append s (e ∷ es) fs = started-append (s || has_key e.path) es fs

pub adds_nothing : (is_form : Bool) (t : StreamState) → Adds is_form t t []
unfolding written started_after
adds_nothing is_form t = record { text = Appends-nil t.taken; visible = All-nil IsVisible; started = refl; failed = refl; writer = refl }

pub adds_then : (is_form : Bool) (a b c : StreamState) (es fs : List Entry) → Adds is_form a b es → Adds is_form b c fs → Adds is_form a c (es ++ fs)
adds_then is_form a b c es fs p q =
    let whole : written is_form a.started es ++ written is_form b.started fs ≡ written is_form a.started (es ++ fs) =
    ap (λ t. written is_form a.started es ++ t) (ap (λ s. written is_form s fs) p.started) ∙ sym (written-append is_form a.started es fs) in
    record {
      text = subst (Appends a.taken c.taken) whole (Appends-trans a.taken b.taken c.taken _ _ p.text q.text);
      visible = subst (All IsVisible) whole (All-append IsVisible _ _ p.visible q.visible);
      started = q.started ∙ ap (λ s. started_after s fs) p.started ∙ sym (started-append a.started es fs);
      failed = q.failed ∙ p.failed;
      writer = q.writer ∙ p.writer;
    }

-- a beginning of entries that others precede and follow is one of all
part_within : (is_form : Bool) (a b c : StreamState) (es fs gs : List Entry) → Adds is_form a b es → AddsPart is_form b c fs → AddsPart is_form a c (es ++ (fs ++ gs))
part_within is_form a b c es fs gs p q =
    let A = written is_form a.started es in
    let B = written is_form b.started fs in
    let C = written is_form (started_after b.started fs) gs in
    let whole : A ++ (B ++ C) ≡ written is_form a.started (es ++ (fs ++ gs)) =
    ap (λ t. A ++ t) (sym (written-append is_form b.started fs gs) ∙ ap (λ s. written is_form s (fs ++ gs)) p.started) ∙ sym (written-append is_form a.started es (fs ++ gs)) in
    let part : A ++ take q.count B ≡ take (length A + q.count) (written is_form a.started (es ++ (fs ++ gs))) =
    ap (λ t. A ++ t) (sym (take-append-le q.count B C (omega (arith, q.proper)))) ∙ sym (take-append-add A (B ++ C) q.count) ∙ ap (take (length A + q.count)) whole in
    record {
      count = length A + q.count;
      proper = omega (arith, q.proper, length-append A (B ++ C), length-append B C, ap length whole);
      text = subst (Appends a.taken c.taken) part (Appends-trans a.taken b.taken c.taken _ _ p.text q.text);
      visible = subst (All IsVisible) part (All-append IsVisible _ _ p.visible q.visible);
      failed = q.failed;
      writer = q.writer ∙ p.writer;
    }

adds_part_then : (is_form : Bool) (a b c : StreamState) (es fs : List Entry) → Adds is_form a b es → AddsPart is_form b c fs → AddsPart is_form a c (es ++ fs)
adds_part_then is_form a b c es fs p q = subst (λ gs. AddsPart is_form a c (es ++ gs)) (append-nil fs) (part_within is_form a b c es fs [] p q)

-- all of an output was written
abbrev Wrote : Config → StreamState → StreamState → Output → Type 0
Wrote config a b o = (o.error ≡ None) × Adds config.is_form a b o.entries

writes_then : (r : Result (Unit {0}) Stop) (config : Config) (path : Path) (a b c : StreamState) (to : Walk) (x y : Output) → Wrote config a b x → Writes r config path b c to y
    → Writes r config path a c to (and_then x y)
writes_then (Ok t) config path a b c to x y p q = rw p.0 (q.0, adds_then config.is_form a b c x.entries y.entries p.1 q.1, q.2)
writes_then (Err Io) config path a b c to x y p q = rw p.0 (adds_part_then config.is_form a b c x.entries y.entries p.1 q)
writes_then (Err OutOfMemory) config path a b c to x y p q = rw p.0 (record {
  front = x.entries ++ q.front;
  rest = q.rest;
  parts = ap (λ z. x.entries ++ z) q.parts ∙ sym (append_assoc x.entries q.front q.rest);
  adds = adds_then config.is_form a b c x.entries q.front p.1 q.adds;
})
writes_then (Err e) config path a b c to x y p q = rw p.0 (q.0, adds_then config.is_form a b c x.entries y.entries p.1 q.1)

some_more : (is_form : Bool) (a c : StreamState) (es : List Entry) (r : Option EntryError) (o : Output) → AddsSome is_form a c es → AddsSome is_form a c (follow es r o).entries
some_more is_form a c es None o h =
    record { front = h.front; rest = h.rest ++ o.entries; parts = ap (λ z. z ++ o.entries) h.parts ∙ append_assoc h.front h.rest o.entries; adds = h.adds }
some_more is_form a c es (Some s) o h = h

part_follow : (is_form : Bool) (a c : StreamState) (es : List Entry) (r : Option EntryError) (o : Output) → AddsPart is_form a c es → AddsPart is_form a c (follow es r o).entries
part_follow is_form a c es None o h = part_within is_form a a c [] es o.entries (adds_nothing is_form a) h
part_follow is_form a c es (Some s) o h = h

-- a stop in the first output
stops_early : (e : Stop) (config : Config) (a b : StreamState) (x y : Output) → Stops e config a b x → Stops e config a b (and_then x y)
stops_early Io config a b x y p = part_follow config.is_form a b x.entries x.error y p
stops_early OutOfMemory config a b x y p = some_more config.is_form a b x.entries x.error y p
stops_early e config a b x y p = rw p.0 (refl, p.1)

-- an allocation failed at once
pub some_none : (is_form : Bool) (t : StreamState) (es : List Entry) → AddsSome is_form t t es
some_none is_form t es = record { front = []; rest = es; parts = refl; adds = adds_nothing is_form t }

-- what the exit of a `?` owes
pub writes_exit : (r : Result (Unit {0}) Stop) (e : Stop) (config : Config) (a b : StreamState) (from to : Walk) (x : Part) → IsErrAnd r (λ y. y ≡ e)
    → WritesAt config (Err e) a b from to x → WritesAt config r a b from to x
writes_exit (Ok t) e config a b from to x h w = absurd h
writes_exit (Err y) e config a b from to x h w = subst (λ z. WritesAt config (Err z) a b from to x) (sym h) w

-- the same part, said otherwise
pub writes_same : (r : Result (Unit {0}) Stop) (config : Config) (a b : StreamState) (from to : Walk) (x y : Part) → ((path : Path) → x config path ≡ y config path)
    → WritesAt config r a b from to x → WritesAt config r a b from to y
writes_same r config a b from to x y same w = λ path at. subst (Writes r config path a b to) (same path) (w path at)

-- no part at all
pub writes_nothing : (config : Config) (a : StreamState) (from : Walk) → WritesAt config (Ok tt) a a from from (λ config path. nothing)
writes_nothing config a from = λ path at. (refl, adds_nothing config.is_form a, at)

-- one part and then another
pub writes_both : (r : Result (Unit {0}) Stop) (config : Config) (a b c : StreamState) (from here to : Walk) (x y : Part) → WritesAt config (Ok tt) a b from here x
    → WritesAt config r b c here to y → WritesAt config r a c from to (both x y)
writes_both r config a b c from here to x y p q = λ path at. let w = p path at in writes_then r config path a b c to (x config path) (y config path) (w.0, w.1) (q path w.2)

-- a stop in the first part
pub writes_first : (e : Stop) (config : Config) (a b : StreamState) (from to : Walk) (x y : Part) → WritesAt config (Err e) a b from to x → WritesAt config (Err e) a b from to (both x y)
writes_first e config a b from to x y w = λ path at. stops_early e config a b (x config path) (y config path) (w path at)

-- The invariant of a loop: whatever is yet written of the rest makes the whole.
abbrev pub Continues : Config → StreamState → StreamState → Walk → Walk → Part → Part → Type 0
Continues config start now from here rest whole =
    (r : Result (Unit {0}) Stop) (last : StreamState) (to : Walk) → WritesAt config r now last here to rest → WritesAt config r start last from to whole

module _ (config : Config) (start now : StreamState) (from here : Walk) (old whole : Part) (go : Continues config start now from here old whole) where
  pub goes_on : (next : StreamState) (there : Walk) (mine rest : Part) → ((path : Path) → old config path ≡ both mine rest config path) → WritesAt config (Ok tt) now next here there mine
      → Continues config start next from there rest whole
  goes_on next there mine rest same w = λ r last to p.
      go r last to (writes_same r config now last here to (both mine rest) old (λ path. sym (same path)) (writes_both r config now next last here there to mine rest w p))

  pub ends_early : (r : Result (Unit {0}) Stop) (e : Stop) (next : StreamState) (there : Walk) (mine rest : Part) → IsErrAnd r (λ y. y ≡ e) → ((path : Path) → old config path ≡ both mine rest config path)
      → WritesAt config (Err e) now next here there mine → WritesAt config r start next from there whole
  ends_early r e next there mine rest exit same w = writes_exit r e config start next from there whole exit
      (go (Err e) next there (writes_same (Err e) config now next here there (both mine rest) old (λ path. sym (same path)) (writes_first e config now next here there mine rest w)))

  pub ends : ((path : Path) → old config path ≡ nothing) → WritesAt config (Ok tt) start now from here whole
  ends same = go (Ok tt) now here (writes_same (Ok tt) config now now here here (λ config path. nothing) old (λ path. sym (same path)) (writes_nothing config now here))

-- after want of memory the text of some first entries stands
pub some_entries : (is_form : Bool) (a b : StreamState) (es : List Entry) → AddsSome is_form a b es → (k : ℕ) × Appends a.taken b.taken (written is_form a.started (take k es))
some_entries is_form a b es w =
    let front : take (length w.front) es ≡ w.front = ap (take (length w.front)) w.parts ∙ take-append_seam w.front w.rest in
    (length w.front, subst (λ es. Appends a.taken b.taken (written is_form a.started es)) (sym front) w.adds.text)

-- whatever was added is visible
pub writes_visible : (r : Result (Unit {0}) Stop) (config : Config) (path : Path) (a b : StreamState) (to : Walk) (o : Output) → Writes r config path a b to o
    → (added : List ℕ) × Appends a.taken b.taken added × All IsVisible added
writes_visible (Ok x) config path a b to o w = (_, w.1.text, w.1.visible)
writes_visible (Err Io) config path a b to o w = (_, w.text, w.visible)
writes_visible (Err OutOfMemory) config path a b to o w = (_, w.adds.text, w.adds.visible)
writes_visible (Err e) config path a b to o w = (_, w.1.text, w.1.visible)
