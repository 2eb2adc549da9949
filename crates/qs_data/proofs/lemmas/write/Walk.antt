-- The entries of data, part by part.
use Rattle.qs_data.proofs.Common.{◌≡◌, ℕ, ◌<◌, ◌≤◌, ◌+◌, cond, List, [], ◌∷◌, ◌++◌, length, drop, get_or, map, refl, sym, ap, ◌∙◌, Option, Result, Ok, Err, arith, rules, lt-ltb, string_bytes, Vec, ◌⊎◌, inl, inr, le-ltb, drop_more, String, Global, IsErrAnd, Config, ArrayFormat, element_segment, Path, Output, nothing, failure, and_then, too_deep, maybe_deeper, under_key, key_text, Walk, Stop, TooDeep, OutOfMemory, Data, data_of, values_in, pairs_in, members_in, StreamState, Stops, at_drop_all, Part, under, elements_part, pairs_part, members_part, WritesAt, EntersAt, IsBarred, LeavesAt}
use Rattle.qs_spec.specs.Data as d
use Rattle.qs_spec.specs.Entry.{deeper, entries_at, elements_from, pair_entries, member_entries}
use Rattle.qs_data.specs.declared.data.data.Data as r
use Rattle.qs_data.proofs.lemmas.data.Levels.{data_of_map}
use Rattle.qs_data.proofs.lemmas.write.Wrote.{adds_nothing, some_none, writes_exit}

deeper_failure : (limit : ℕ) (p : Path) (s : List ℕ) (f : Path → Output) → limit < length p → deeper limit p s f ≡ failure too_deep
unfolding deeper
deeper_failure limit p s f h = ap (λ b. cond b (failure too_deep) (f (p ++ s ∷ []))) (lt-ltb _ _ h)

deeper_goes : (limit : ℕ) (p : Path) (s : List ℕ) (f : Path → Output) → length p ≤ limit → deeper limit p s f ≡ f (p ++ s ∷ [])
unfolding deeper
deeper_goes limit p s f h = ap (λ b. cond b (failure too_deep) (f (p ++ s ∷ []))) (le-ltb _ _ h)

-- where the walk doesn't go in
stops_entering : (e : Stop) (config : Config) (t : StreamState) (p : Path) (s : List ℕ) (f : Path → Output) → ((e ≡ TooDeep) × (config.max_depth < length p)) ⊎ (e ≡ OutOfMemory)
    → Stops e config t t (deeper config.max_depth p s f)
stops_entering e config t p s f (inl h) = rw (h.0, deeper_failure config.max_depth p s f h.1) (refl, adds_nothing config.is_form t)
stops_entering e config t p s f (inr h) = rw h (some_none config.is_form t (deeper config.max_depth p s f).entries)

pub stays_out : (r : Result (Unit {0}) Stop) (e : Stop) (config : Config) (t : StreamState) (from to : Walk) (s : List ℕ) (x : Part) → IsErrAnd r (λ y. y ≡ e) → IsBarred config e from
    → WritesAt config r t t from to (under s x)
stays_out r e config t from to s x exit why =
    writes_exit r e config t t from to (under s x) exit (λ path at. stops_entering e config t path s (x config) (why path at))

module _ (config : Config) (s : List ℕ) (x : Part) (a b : StreamState) (from within : Walk) (entered : EntersAt config s from within) where
  -- a part is written under one more segment
  pub writes_under : (back to : Walk) (len : ℕ) → WritesAt config (Ok tt) a b within back x → LeavesAt config len back to → len ≡ length from.text → WritesAt config (Ok tt) a b from to (under s x)
  writes_under back to len wrote left is = λ p at.
      let e = entered p at in
      let w = wrote (p ++ s ∷ []) e.1 in
      rw (deeper_goes config.max_depth p s (x config) e.0) (w.0, w.1, left p s w.2 (is ∙ ap length at.text))

  pub stops_under : (r : Result (Unit {0}) Stop) (e : Stop) (back : Walk) → IsErrAnd r (λ y. y ≡ e) → WritesAt config (Err e) a b within back x → WritesAt config r a b from back (under s x)
  stops_under r e back exit stops = writes_exit r e config a b from back (under s x) exit (λ p at.
      let g = entered p at in
      rw (deeper_goes config.max_depth p s (x config) g.0) (stops (p ++ s ∷ []) g.1))

module _ {A : Type 0} (datum : A → d.Data) where
  pub elements_here_by : (limit : ℕ) (format : ArrayFormat) (xs : List A) (i : ℕ) (x : A) (p : Path) → i < length xs → x ≡ get_or xs i x
      → elements_from limit format i (d.values_of (map datum (drop i xs))) p
      ≡ and_then (maybe_deeper limit p (element_segment format i) (entries_at limit format (datum x))) (elements_from limit format (i + 1) (d.values_of (map datum (drop (i + 1) xs))) p)
  unfolding elements_from
  elements_here_by limit format xs i x p h is =
      ap (λ ys. elements_from limit format i (d.values_of (map datum ys)) p) (drop_more xs i x h ∙ ap (λ y. y ∷ drop (i + 1) xs) (sym is))

  pub elements_end_by : (limit : ℕ) (format : ArrayFormat) (xs : List A) (i : ℕ) (p : Path) → length xs ≤ i → elements_from limit format i (d.values_of (map datum (drop i xs))) p ≡ nothing
  unfolding elements_from
  elements_end_by limit format xs i p h = at_drop_all (λ ys. elements_from limit format i (d.values_of (map datum ys)) p) xs i h

-- what is left of the elements of a list, of the pairs of a map and of the members of a struct

abbrev pub elements_left : List Data → ℕ → Part
elements_left xs i = elements_part i (values_in (drop i xs))

abbrev pub pairs_left : List (Data × Data) → ℕ → Part
pairs_left ps i = pairs_part (pairs_in (drop i ps))

abbrev pub members_left : List (String Global × Data) → ℕ → Part
members_left ms i = members_part (members_in (drop i ms))

pub pairs_end : (limit : ℕ) (format : ArrayFormat) (xs : List (Data × Data)) (i : ℕ) (p : Path) → length xs ≤ i → pair_entries limit format (pairs_in (drop i xs)) p ≡ nothing
unfolding pair_entries
pairs_end limit format xs i p h = at_drop_all (λ ys. pair_entries limit format (pairs_in ys) p) xs i h

-- a pair of a map, whose key may be no scalar
pub pairs_here : (limit : ℕ) (format : ArrayFormat) (xs : List (Data × Data)) (i : ℕ) (x : Data × Data) (p : Path) (key : Option (List ℕ)) → i < length xs → x ≡ get_or xs i x
    → key ≡ key_text (data_of x.0) → pair_entries limit format (pairs_in (drop i xs)) p
    ≡ and_then (under_key limit p key (entries_at limit format (data_of x.1))) (pair_entries limit format (pairs_in (drop (i + 1) xs)) p)
unfolding pair_entries
pairs_here limit format xs i x p key h is e =
    let rest = pair_entries limit format (pairs_in (drop (i + 1) xs)) p in
    ap (λ ys. pair_entries limit format (pairs_in ys) p) (drop_more xs i x h ∙ ap (λ y. y ∷ drop (i + 1) xs) (sym is))
    ∙ ap (λ k. and_then (under_key limit p k (entries_at limit format (data_of x.1))) rest) (sym e)

pub members_end : (limit : ℕ) (format : ArrayFormat) (xs : List (String Global × Data)) (i : ℕ) (p : Path) → length xs ≤ i → member_entries limit format (members_in (drop i xs)) p ≡ nothing
unfolding member_entries
members_end limit format xs i p h = at_drop_all (λ ys. member_entries limit format (members_in ys) p) xs i h

pub members_here : (limit : ℕ) (format : ArrayFormat) (xs : List (String Global × Data)) (i : ℕ) (x : String Global × Data) (p : Path) (name : List ℕ) → i < length xs → x ≡ get_or xs i x
    → name ≡ string_bytes x.0 → member_entries limit format (members_in (drop i xs)) p
    ≡ and_then (deeper limit p name (entries_at limit format (data_of x.1))) (member_entries limit format (members_in (drop (i + 1) xs)) p)
unfolding member_entries
members_here limit format xs i x p name h is e =
    let rest = member_entries limit format (members_in (drop (i + 1) xs)) p in
    ap (λ ys. member_entries limit format (members_in ys) p) (drop_more xs i x h ∙ ap (λ y. y ∷ drop (i + 1) xs) (sym is))
    ∙ ap (λ n. and_then (deeper limit p n (entries_at limit format (data_of x.1))) rest) (sym e)

-- lists and maps that aren't empty

filled : (limit : ℕ) (format : ArrayFormat) (p : Path) (make : d.Values → d.Data)
    → ((v : d.Data) (vs : d.Values) → entries_at limit format (make (d.one_value v vs)) p ≡ elements_from limit format 0 (d.one_value v vs) p)
    → (xs : List Data) → 0 < length xs → entries_at limit format (make (values_in xs)) p ≡ elements_from limit format 0 (values_in xs) p
filled limit format p make by [] h = absurd (omega arith)
filled limit format p make by (x ∷ xs) h = by (data_of x) (values_in xs)

pub list_elements : (limit : ℕ) (format : ArrayFormat) (x : Data) (xs : Vec Data Global) (p : Path) → (x ≡ r.Seq xs) ⊎ (x ≡ r.Tuple xs) → 0 < length xs.items
    → entries_at limit format (data_of x) p ≡ elements_from limit format 0 (values_in xs.items) p
unfolding entries_at
list_elements limit format x xs p (inl is) some =
    let level : data_of (r.Seq xs) ≡ d.sequence (values_in xs.items) = search (rules, r.the_lemmas) in
    ap (λ y. entries_at limit format (data_of y) p) is ∙ ap (λ y. entries_at limit format y p) level ∙ filled limit format p d.sequence (λ v vs. refl) xs.items some
list_elements limit format x xs p (inr is) some =
    let level : data_of (r.Tuple xs) ≡ d.tuple (values_in xs.items) = search (rules, r.the_lemmas) in
    ap (λ y. entries_at limit format (data_of y) p) is ∙ ap (λ y. entries_at limit format y p) level ∙ filled limit format p d.tuple (λ v vs. refl) xs.items some

pub map_pairs : (limit : ℕ) (format : ArrayFormat) (x : Data) (xs : Vec (Data × Data) Global) (p : Path) → x ≡ r.Map xs → 0 < length xs.items
    → entries_at limit format (data_of x) p ≡ pair_entries limit format (pairs_in xs.items) p
unfolding entries_at
map_pairs limit format x xs p is some =
    ap (λ y. entries_at limit format (data_of y) p) is ∙ ap (λ y. entries_at limit format y p) (data_of_map xs) ∙ by xs.items some
  where
    by : (ys : List (Data × Data)) → 0 < length ys → entries_at limit format (d.mapping (pairs_in ys)) p ≡ pair_entries limit format (pairs_in ys) p
    by [] h = absurd (omega arith)
    by (y ∷ ys) h = refl

pub variant_elements : (limit : ℕ) (format : ArrayFormat) (x : Data) (name : String Global) (xs : Vec Data Global) (p : Path) → x ≡ r.TupleVariant name xs
    → entries_at limit format (data_of x) p ≡ deeper limit p (string_bytes name) (elements_from limit format 0 (values_in xs.items))
unfolding entries_at
variant_elements limit format x name xs p is =
    let level : data_of (r.TupleVariant name xs) ≡ d.tuple_variant (string_bytes name) (values_in xs.items) = search (rules, r.the_lemmas) in
    ap (λ y. entries_at limit format (data_of y) p) is ∙ ap (λ y. entries_at limit format y p) level
