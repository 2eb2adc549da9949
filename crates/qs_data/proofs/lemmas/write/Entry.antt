-- One entry: where the walk is, how the entry is written there, and what its puts leave.
use Rattle.qs_data.proofs.Common.{one, ◌≡◌, ℕ, ◌<◌, ◌≤◌, Bool, true, false, not, eqb, cond, List, [], ◌∷◌, ◌++◌, length, take, drop, refl, sym, ap, ◌∙◌, subst, Option, Some, append_assoc, append-nil, length-append, arith, take-append_seam, or-false, ne_eqb, drop-append-le, length-take, All-drop, All-take, ◌||◌, All, Appends, encoded, Config, Path, brackets_text, value_text, has_key, open_bytes, close_bytes, Walk, Stop, Io, IsVisible, IsAt, StreamState, Adds, Stops, path_after, grown}
use Rattle.qs_spec.specs.Written.{written, started_after, entry_text, path_text}

-- a segment in brackets
abbrev bracketed : Bool → List ℕ → List ℕ
bracketed is_form s = open_bytes is_form ++ (encoded is_form s ++ close_bytes is_form)

brackets-append : (is_form : Bool) (path : Path) (s : List ℕ) → brackets_text is_form (path ++ s ∷ []) ≡ brackets_text is_form path ++ bracketed is_form s
brackets-append is_form [] s = ap (λ t. open_bytes is_form ++ (encoded is_form s ++ t)) (append-nil (close_bytes is_form))
brackets-append is_form (x ∷ path) s = rw (brackets-append is_form path s) (simp append_assoc)

-- one more segment
pub path_grown : (is_form : Bool) (path : Path) (s : List ℕ) → path_after is_form (path ++ s ∷ []) ≡ grown is_form (path_after is_form path) s
path_grown is_form [] s = ap (λ t. 38 ∷ t) (append-nil (encoded is_form s))
path_grown is_form (x ∷ path) s = rw (brackets-append is_form path s) (simp append_assoc)

-- without the last segment
pub path_left : (is_form : Bool) (path : Path) (s : List ℕ) → take (length (path_after is_form path)) (path_after is_form (path ++ s ∷ [])) ≡ path_after is_form path
path_left is_form [] s = refl
path_left is_form (x ∷ path) s = ap (take (length (path_after is_form (x ∷ path)))) (path_grown is_form (x ∷ path) s) ∙ take-append_seam (path_after is_form (x ∷ path)) (bracketed is_form s)

brackets_long : (is_form : Bool) (path : Path) → length path ≤ length (brackets_text is_form path)
brackets_long is_form [] = omega arith
brackets_long true (x ∷ path) = let e = length-append (encoded true x) (close_bytes true ++ brackets_text true path) in omega (arith, brackets_long true path)
brackets_long false (x ∷ path) = let e = length-append (encoded false x) (close_bytes false ++ brackets_text false path) in omega (arith, brackets_long false path)

-- a path has no more segments than bytes
pub path_long : (is_form : Bool) (path : Path) → length path ≤ length (path_after is_form path)
path_long is_form [] = omega arith
path_long is_form (x ∷ path) = let e = length-append (encoded is_form x) (brackets_text is_form path) in omega (arith, brackets_long is_form path)

some_text : (is_form : Bool) (x : List ℕ) (path : Path) → eqb (length (path_after is_form (x ∷ path))) 0 ≡ false
some_text is_form x path = ne_eqb (length (path_after is_form (x ∷ path))) 0 (λ e. absurd (omega (arith, e)))

led : (is_form started : Bool) (path : Path) (value : Option (List ℕ)) → drop (cond (started || eqb (length (path_after is_form path)) 0) 0 1) (path_after is_form path ++ value_text is_form value)
    ≡ entry_text is_form started path value
unfolding entry_text path_text
led is_form true [] value = refl
led is_form false [] value = refl
led is_form true (x ∷ path) value = refl
led is_form false (x ∷ path) value = ap (λ b. drop (cond b 0 1) (path_after is_form (x ∷ path) ++ value_text is_form value)) (some_text is_form x path)

-- what is shown of a text, and what is left of the value, are the entry: it begins with the path's `&`, or after it
pub entry_shown : (config : Config) (is_form started : Bool) (path : Path) (value : Option (List ℕ)) (walk : Walk) (out rest shown : List ℕ) (len start : ℕ) → IsAt config path walk → is_form ≡ walk.config.is_form
    → out ++ rest ≡ walk.text ++ value_text is_form value → take (length walk.text) out ≡ walk.text → len ≡ length walk.text → start ≡ cond (started || eqb len 0) 0 1 → start ≤ len
    → shown ≡ drop start out → (All IsVisible walk.text → All IsVisible (out ++ rest)) → (shown ++ rest ≡ entry_text config.is_form started path value) × All IsVisible (shown ++ rest)
entry_shown config is_form started path value walk out rest shown len start at same_form is kept l n within shows visible =
    let fits : start ≤ length out = omega (arith, within, l, ap length kept, length-take (length walk.text) out) in
    let same : shown ++ rest ≡ drop start (out ++ rest) = ap (λ t. t ++ rest) shows ∙ sym (drop-append-le start out rest fits) in
    let as_set : out ++ rest ≡ path_after config.is_form path ++ value_text config.is_form value =
    is ∙ ap (λ f. walk.text ++ value_text f value) (same_form ∙ ap (λ (k : Config). k.is_form) at.settings) ∙ ap (λ t. t ++ value_text config.is_form value) at.text in (
      same ∙ ap (λ k. drop k (out ++ rest)) (n ∙ ap (λ m. cond (started || eqb m 0) 0 1) (l ∙ ap length at.text))
          ∙ ap (drop (cond (started || eqb (length (path_after config.is_form path)) 0) 0 1)) as_set ∙ led config.is_form started path value,
      subst (All IsVisible) (sym same) (All-drop IsVisible start (out ++ rest) (visible at.visible)),
    )

key_is : (is_form : Bool) (path : Path) → not (eqb (length (path_after is_form path)) 0) ≡ has_key path
key_is is_form [] = refl
key_is is_form (x ∷ path) = ap not (some_text is_form x path)

-- there is a key where there is text
pub has_key_is : (is_form : Bool) (path : Path) (walk : Walk) (len : ℕ) → walk.text ≡ path_after is_form path → len ≡ length walk.text → not (eqb len 0) ≡ has_key path
has_key_is is_form path walk len at l = ap (λ n. not (eqb n 0)) (l ∙ ap length at) ∙ key_is is_form path

pub at_top : (is_form : Bool) (path : Path) (walk : Walk) → walk.text ≡ path_after is_form path → length walk.text ≡ 0 → path ≡ []
at_top is_form [] walk at h = refl
at_top is_form (x ∷ path) walk at h = let e = ap length at in absurd (omega (arith, e, h))

-- the walk is back where it was, when the value is cut off
pub at_back : (config : Config) (path : Path) (walk back : Walk) → IsAt config path walk → back.config ≡ walk.config → back.depth ≡ walk.depth → back.text ≡ walk.text → IsAt config path back
at_back config path walk back at k d same =
    record { settings = k ∙ at.settings; depth = d ∙ at.depth; text = same ∙ at.text; visible = subst (All IsVisible) (sym same) at.visible }

written-one : (is_form started : Bool) (path : Path) (value : Option (List ℕ)) → written is_form started (record { path = path; value = value } ∷ []) ≡ entry_text is_form started path value
unfolding written
written-one is_form started path value = append-nil (entry_text is_form started path value)

-- an empty value at the top
pub entry_empty : (is_form started : Bool) (path : Path) → path ≡ [] → 61 ∷ [] ≡ entry_text is_form started path (Some [])
unfolding entry_text path_text
entry_empty is_form started path h = rw h

pub no_key : (path : Path) (started : Bool) → path ≡ [] → started ≡ (started || has_key path)
no_key path started h = rw h (sym (or-false started))

pub adds_one : (is_form : Bool) (a b : StreamState) (path : Path) (value : Option (List ℕ)) (text : List ℕ) → text ≡ entry_text is_form a.started path value
    → Appends a.taken b.taken text → All IsVisible text → b.started ≡ (a.started || has_key path) → b.failed ≡ a.failed → b.writer ≡ a.writer
    → Adds is_form a b (record { path = path; value = value } ∷ [])
unfolding started_after
adds_one is_form a b path value text is added visible started failed writer =
    let same = is ∙ sym (written-one is_form a.started path value) in
    record { text = subst (Appends a.taken b.taken) same added; visible = subst (All IsVisible) same visible; started = started; failed = failed; writer = writer }

pub io_stops : (config : Config) (a b : StreamState) (path : Path) (value : Option (List ℕ)) (text : List ℕ) (e : Stop) → e ≡ Io → text ≡ entry_text config.is_form a.started path value
    → (n : ℕ) × (n < length text) × Appends a.taken b.taken (take n text) → All IsVisible text → b.failed ≡ true → b.writer ≡ a.writer → Stops e config a b (one path value)
io_stops config a b path value text e io is part visible failed writer =
    let same = is ∙ sym (written-one config.is_form a.started path value) in
    rw io (record {
      count = part.0;
      proper = subst (λ t. part.0 < length t) same part.1;
      text = subst (λ t. Appends a.taken b.taken (take part.0 t)) same part.2;
      visible = subst (λ t. All IsVisible (take part.0 t)) same (All-take IsVisible part.0 text visible);
      failed = failed;
      writer = writer;
    })
