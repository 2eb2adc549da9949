-- The events of data have the text of their entries.
use Rattle.std.proofs.Common.{◌≡◌, ℕ, suc, ◌+◌, ◌^◌, ◌<◌, Bool, true, false, cond, ◌&&◌, List, [], ◌∷◌, ◌++◌, length, refl, sym, ap, ap₂, ◌∙◌, arith, Option, Some, None, append-nil, append_assoc, decimal, nat_lt, eqb}
use Rattle.std.specs.Prelude.{option_map, option_and_then}
use Rattle.std.specs.Fmt.{signed_decimal}
use Rattle.std.specs.Char.{encode_utf8}
use Rattle.std.proofs.lemmas.Option.{none-some, same_Some}
use Rattle.std.proofs.lemmas.Bool.{ne_eqb}
use Rattle.qs_spec.specs.Config.{Config, ArrayFormat, element_segment}
use Rattle.qs_spec.specs.Data as d
use Rattle.qs_spec.specs.Data.{Data, Values, no_values, one_value, Pairs, no_pairs, one_pair, Members, no_members, one_member}
use Rattle.qs_spec.specs.Entry.{Path, Entry, EntryError, Output, and_then, bad_key, boolean_text, deeper, elements_from, entries, entries_at, failure, follow, key_text, maybe_deeper, member_entries, pair_entries, too_deep, under_key}
use Rattle.qs_spec.specs.Written.{written}
use Rattle.serde.specs.Event as e
use Rattle.serde.specs.Event.{Event}
use Rattle.serde.specs.Spelling.{spelled}
use Rattle.serde.specs.declared.name.Case.TheVariants.{AsIs}
use Rattle.serde.specs.declared.name.NameKind.{NameKind}
use Rattle.serde.specs.declared.name.NameKind.TheVariants.{Field, Variant}
use Rattle.serde.proofs.Spellings.{spelled-AsIs}
use Rattle.qs_serde.specs.declared.writing.frame.FrameKind.{FrameKind}
use Rattle.qs_serde.specs.declared.writing.frame.FrameKind.TheVariants as k
use Rattle.qs_serde.specs.declared.writing.frame.Next.{Next}
use Rattle.qs_serde.specs.declared.writing.frame.Next.TheVariants as n
use Rattle.qs_serde.specs.Sent.{Level, State, all_sent, capped, ends_as, goes_to_value, goes_under, is_inside, opened, path_of, puts, text_of_sent, text_sent, under_index}
use Rattle.qs_serde.specs.Sends.{AreSaid, AreSaidMembers, AreSaidPairs, AreSaidValues, sends, sends_members, sends_pairs, sends_values, values_count}

-- a state before a value, or before a key
abbrev at : List Entry → Level → List Level → State
at es here around = record { entries = es; here = here; around = around; next = n.Value }

abbrev keyed : List Entry → Level → List Level → State
keyed es here around = record { entries = es; here = here; around = around; next = n.Key }

abbrev part_of : FrameKind → ℕ → Option (List ℕ) → Level
part_of kind count part = record { kind = kind; count = count; part = part }

abbrev after : Level → Level
after h = part_of h.kind (capped (h.count + 1)) None

abbrev within : Level → List Level → Path
within h around = path_of (h ∷ around)

-- outputs without an error

both_none : (a b : Output) → (and_then a b).error ≡ None → (a.error ≡ None) × (b.error ≡ None) × ((and_then a b).entries ≡ a.entries ++ b.entries)
both_none a b h = by a.error refl h
  where
    by : (r : Option EntryError) → a.error ≡ r → (follow a.entries r b).error ≡ None → (a.error ≡ None) × (b.error ≡ None) × ((and_then a b).entries ≡ a.entries ++ b.entries)
    by None is g = (is, g, ap (λ r. (follow a.entries r b).entries) is)
    by (Some r) is g = absurd (none-some r (sym g))

module _ (config : Config) where
  abbrev limit : ℕ
  limit = config.max_depth

  abbrev format : ArrayFormat
  format = config.array_format

  -- under one more segment
  under_none : (part : Path → Output) (path : Path) (segment : List ℕ) → (deeper limit path segment part).error ≡ None
      → (nat_lt limit (length path) ≡ false) × (deeper limit path segment part ≡ part (path ++ segment ∷ []))
  unfolding deeper
  under_none part path segment h = by (nat_lt limit (length path)) refl h
    where
      by : (b : Bool) → nat_lt limit (length path) ≡ b → (cond b (failure too_deep) (part (path ++ segment ∷ []))).error ≡ None
          → (nat_lt limit (length path) ≡ false) × (cond (nat_lt limit (length path)) (failure too_deep) (part (path ++ segment ∷ [])) ≡ part (path ++ segment ∷ []))
      by true is g = absurd (none-some too_deep (sym g))
      by false is g = (is, ap (λ b. cond b (failure too_deep) (part (path ++ segment ∷ []))) is)

  module _ (kind : FrameKind) (count : ℕ) (es : List Entry) (around : List Level) (part : Path → Output) where
    goes : (segment : List ℕ) (next : Next) → (deeper limit (path_of around) segment part).error ≡ None
        → (goes_under config segment (record { entries = es; here = part_of kind count None; around = around; next = next }) ≡ Some (record { entries = es; here = part_of kind count (Some segment); around = around; next = next }))
        × (deeper limit (path_of around) segment part ≡ part (within (part_of kind count (Some segment)) around))
    goes segment next h =
        let u = under_none part (path_of around) segment h in
        (ap (λ b. cond b None (Some (record { entries = es; here = part_of kind count (Some segment); around = around; next = next }))) u.0, u.1)

    item_goes : (segment : Option (List ℕ)) → (maybe_deeper limit (path_of around) segment part).error ≡ None
        → (under_index segment config (at es (part_of kind count None) around) ≡ Some (at es (part_of kind count segment) around))
        × (maybe_deeper limit (path_of around) segment part ≡ part (within (part_of kind count segment) around))
    item_goes None h = (refl, ap part (sym (append-nil (path_of around))))
    item_goes (Some segment) h = goes segment n.Value h

  -- a value of one text
  text_case : (bytes : List ℕ) (rest : List Event) (es : List Entry) (h₀ h : Level) (around : List Level) → goes_to_value config (at es h₀ around) ≡ Some (at es h around)
      → option_and_then (all_sent config rest) (text_sent config bytes (at es h₀ around)) ≡ all_sent config rest (at (es ++ record { path = within h around; value = Some bytes } ∷ []) (after h) around)
  text_case bytes rest es h₀ h around go = ap (λ o. option_and_then (all_sent config rest) (option_map (puts (Some bytes)) o)) go

  -- a key of one text
  key_case : (key : Data) (bytes : List ℕ) (rest : List Event) (es : List Entry) (h : Level) (around : List Level) → key_text key ≡ Some bytes
      → all_sent config (sends key rest) (keyed es h around) ≡ option_and_then (all_sent config rest) (goes_under config bytes (keyed es h around))
  key_case (d.boolean b) bytes rest es h around is = ap (λ t. option_and_then (all_sent config rest) (goes_under config t (keyed es h around))) (same_Some _ _ is)
  key_case (d.unsigned m) bytes rest es h around is = ap (λ t. option_and_then (all_sent config rest) (goes_under config t (keyed es h around))) (same_Some _ _ is)
  key_case (d.signed z) bytes rest es h around is = ap (λ t. option_and_then (all_sent config rest) (goes_under config t (keyed es h around))) (same_Some _ _ is)
  key_case (d.character c) bytes rest es h around is = ap (λ t. option_and_then (all_sent config rest) (goes_under config t (keyed es h around))) (same_Some _ _ is)
  key_case (d.text t) bytes rest es h around is = ap (λ t. option_and_then (all_sent config rest) (goes_under config t (keyed es h around))) (same_Some _ _ is)
  key_case (d.bytes b) bytes rest es h around is = ap (λ t. option_and_then (all_sent config rest) (goes_under config t (keyed es h around))) (same_Some _ _ is)
  key_case (d.unit_variant name) bytes rest es h around is = ap (λ t. option_and_then (all_sent config rest) (goes_under config t (keyed es h around))) (spelled-AsIs Variant name ∙ same_Some _ _ is)
  key_case d.unit bytes rest es h around is = absurd (none-some bytes is)
  key_case d.none bytes rest es h around is = absurd (none-some bytes is)
  key_case (d.some x) bytes rest es h around is = absurd (none-some bytes is)
  key_case (d.sequence xs) bytes rest es h around is = absurd (none-some bytes is)
  key_case (d.tuple xs) bytes rest es h around is = absurd (none-some bytes is)
  key_case (d.mapping ps) bytes rest es h around is = absurd (none-some bytes is)
  key_case (d.struct ms) bytes rest es h around is = absurd (none-some bytes is)
  key_case (d.newtype x) bytes rest es h around is = absurd (none-some bytes is)
  key_case (d.newtype_variant name x) bytes rest es h around is = absurd (none-some bytes is)
  key_case (d.tuple_variant name xs) bytes rest es h around is = absurd (none-some bytes is)
  key_case (d.struct_variant name ms) bytes rest es h around is = absurd (none-some bytes is)

  -- a list or a map begins, as a value
  begins : (kind : FrameKind) (rest : List Event) (es : List Entry) (h₀ h : Level) (around : List Level) → goes_to_value config (at es h₀ around) ≡ Some (at es h around)
      → option_and_then (all_sent config rest) (option_map (opened kind) (goes_to_value config (at es h₀ around))) ≡ all_sent config rest (at es (part_of kind 0 None) (h ∷ around))
  begins kind rest es h₀ h around go = ap (λ o. option_and_then (all_sent config rest) (option_map (opened kind) o)) go

  -- a list ends that has items, and a map that has parts
  abbrev ended_at : Bool → List Event → List Entry → Level → List Level → Option State
  ended_at is_empty rest es h around = all_sent config rest (ends_as is_empty (at es h around))

  more_than_none : (m : ℕ) → 0 < m → eqb m 0 ≡ false
  more_than_none m l = ne_eqb m 0 (λ is. omega (arith, is, l))

  full_list : (count : ℕ) (rest : List Event) (es : List Entry) (h : Level) (around : List Level) → 0 < count
      → all_sent config (e.seq_ends ∷ rest) (at es (part_of k.Items count None) (h ∷ around)) ≡ all_sent config rest (at es (after h) around)
  full_list count rest es h around l = ap (λ b. ended_at b rest es h around) (more_than_none count l)

  full_map : (count : ℕ) (rest : List Event) (es : List Entry) (h : Level) (around : List Level) → 0 < count
      → all_sent config (e.map_ends ∷ rest) (at es (part_of k.Members count None) (h ∷ around)) ≡ all_sent config rest (at es (after h) around)
  full_map count rest es h around l = ap (λ b. ended_at (b && is_inside h.kind) rest es h around) (more_than_none count l)

  -- how many parts a map has, as `usize` counts them
  abbrev counted : Members → ℕ → ℕ
  counted no_members m = m
  counted (one_member name x ms) m = counted ms (capped (m + 1))

  abbrev counted_pairs : Pairs → ℕ → ℕ
  counted_pairs no_pairs m = m
  counted_pairs (one_pair key x ps) m = counted_pairs ps (capped (m + 1))

  one_more : (m : ℕ) → 0 < capped (m + 1)
  one_more m = omega arith

  counted_some : (ms : Members) (m : ℕ) → 0 < m → 0 < counted ms m
  counted_some no_members m l = l
  counted_some (one_member name x ms) m l = counted_some ms (capped (m + 1)) (one_more m)

  counted_some_pairs : (ps : Pairs) (m : ℕ) → 0 < m → 0 < counted_pairs ps m
  counted_some_pairs no_pairs m l = l
  counted_some_pairs (one_pair key x ps) m l = counted_some_pairs ps (capped (m + 1)) (one_more m)

  -- under a name
  named : (kind : NameKind) (name : List ℕ) (rest : List Event) (es : List Entry) (m : ℕ) (ls : List Level) (part : Path → Output) → (deeper limit (path_of ls) name part).error ≡ None
      → option_and_then (all_sent config rest) (goes_under config (spelled AsIs kind name) (at es (part_of k.Members m None) ls)) ≡ all_sent config rest (at es (part_of k.Members m (Some name)) ls)
  named kind name rest es m ls part h =
      ap (λ t. option_and_then (all_sent config rest) (goes_under config t (at es (part_of k.Members m None) ls))) (spelled-AsIs kind name)
      ∙ ap (option_and_then (all_sent config rest)) (goes k.Members m es ls part name n.Value h).0

  -- under a key
  key_is : (key : Data) (path : Path) (part : Path → Output) → (under_key limit path (key_text key) part).error ≡ None
      → (bytes : List ℕ) × (key_text key ≡ Some bytes) × (under_key limit path (key_text key) part ≡ deeper limit path bytes part)
  key_is key path part h = by (key_text key) refl h
    where
      by : (t : Option (List ℕ)) → key_text key ≡ t → (under_key limit path t part).error ≡ None
          → (bytes : List ℕ) × (key_text key ≡ Some bytes) × (under_key limit path (key_text key) part ≡ deeper limit path bytes part)
      by None is g = absurd (none-some bad_key (sym g))
      by (Some bytes) is g = (bytes, is, ap (λ t. under_key limit path t part) is)

  keyed_sent : (key : Data) (bytes : List ℕ) (rest : List Event) (es : List Entry) (m : ℕ) (ls : List Level) (part : Path → Output) → key_text key ≡ Some bytes
      → (deeper limit (path_of ls) bytes part).error ≡ None
      → all_sent config (e.key_begins ∷ sends key (e.key_ends ∷ rest)) (at es (part_of k.Members m None) ls) ≡ all_sent config rest (at es (part_of k.Members m (Some bytes)) ls)
  keyed_sent key bytes rest es m ls part is h =
      key_case key bytes (e.key_ends ∷ rest) es (part_of k.Members m None) ls is
      ∙ ap (option_and_then (all_sent config (e.key_ends ∷ rest))) (goes k.Members m es ls part bytes n.Key h).0

  -- a part under a name: where it has no error, and what was sent of it
  part_error : (part : Path → Output) (name : List ℕ) (m : ℕ) (ls : List Level) → (deeper limit (path_of ls) name part).error ≡ None → (part (within (part_of k.Members m (Some name)) ls)).error ≡ None
  part_error part name m ls h = ap (λ (o : Output). o.error) (sym (goes k.Members m [] ls part name n.Value h).1) ∙ h

  part_sent : (part : Path → Output) (name : List ℕ) (m : ℕ) (rest before : List Event) (es : List Entry) (ls : List Level) → (deeper limit (path_of ls) name part).error ≡ None
      → all_sent config before (at es (part_of k.Members m (Some name)) ls)
      ≡ all_sent config rest (at (es ++ (part (within (part_of k.Members m (Some name)) ls)).entries) (part_of k.Members (capped (m + 1)) None) ls)
      → all_sent config before (at es (part_of k.Members m (Some name)) ls) ≡ all_sent config rest (at (es ++ (deeper limit (path_of ls) name part).entries) (part_of k.Members (capped (m + 1)) None) ls)
  part_sent part name m rest before es ls h sent_is =
      sent_is ∙ ap (λ (o : Output). all_sent config rest (at (es ++ o.entries) (part_of k.Members (capped (m + 1)) None) ls)) (sym (goes k.Members m es ls part name n.Value h).1)

  -- the variant of an enum ends
  variant_ends : (part : Path → Output) (name : List ℕ) (rest : List Event) (es : List Entry) (h : Level) (around : List Level) → (deeper limit (within h around) name part).error ≡ None
      → all_sent config (e.map_ends ∷ rest) (at (es ++ (part (within (part_of k.Members 0 (Some name)) (h ∷ around))).entries) (part_of k.Members (capped 1) None) (h ∷ around))
      ≡ all_sent config rest (at (es ++ (deeper limit (within h around) name part).entries) (after h) around)
  variant_ends part name rest es h around none =
      full_map (capped 1) rest (es ++ (part (within (part_of k.Members 0 (Some name)) (h ∷ around))).entries) h around (one_more 0)
      ∙ ap (λ (o : Output). all_sent config rest (at (es ++ o.entries) (after h) around)) (sym (goes k.Members 0 es (h ∷ around) part name n.Value none).1)

  capped_is : (m : ℕ) → m < 2 ^ 64 → capped m ≡ m
  capped_is m l = omega (arith, l)

  -- entries, and others after them
  joined : (rest : List Event) (es fs gs all : List Entry) (kind : FrameKind) (a b : ℕ) (ls : List Level) → all ≡ fs ++ gs → a ≡ b
      → all_sent config rest (at ((es ++ fs) ++ gs) (part_of kind a None) ls) ≡ all_sent config rest (at (es ++ all) (part_of kind b None) ls)
  joined rest es fs gs all kind a b ls is same =
      ap₂ (λ l c. all_sent config rest (at l (part_of kind c None) ls)) (append_assoc es fs gs ∙ ap (λ l. es ++ l) (sym is)) same

  none_more : (rest : List Event) (es : List Entry) (kind : FrameKind) (a b : ℕ) (ls : List Level) → a ≡ b
      → all_sent config rest (at es (part_of kind a None) ls) ≡ all_sent config rest (at (es ++ []) (part_of kind b None) ls)
  none_more rest es kind a b ls same = ap₂ (λ l c. all_sent config rest (at l (part_of kind c None) ls)) (sym (append-nil es)) same

  mutual
    unfolding entries_at elements_from pair_entries member_entries

    data_sent : (inside : Bool) (x : Data) (rest : List Event) (es : List Entry) (h₀ h : Level) (around : List Level) → AreSaid inside x → is_inside h.kind ≡ inside
        → goes_to_value config (at es h₀ around) ≡ Some (at es h around) → (entries_at limit format x (within h around)).error ≡ None
        → all_sent config (sends x rest) (at es h₀ around) ≡ all_sent config rest (at (es ++ (entries_at limit format x (within h around)).entries) (after h) around)
    data_sent inside d.unit rest es h₀ h around said is go none = absurd said
    data_sent inside d.none rest es h₀ h around said is go none = ap (λ o. option_and_then (all_sent config rest) (option_map (puts None) o)) go
    data_sent inside (d.some x) rest es h₀ h around said is go none = data_sent inside x rest es h₀ h around said is go none
    data_sent inside (d.boolean b) rest es h₀ h around said is go none = text_case (boolean_text b) rest es h₀ h around go
    data_sent inside (d.unsigned m) rest es h₀ h around said is go none = text_case (decimal m) rest es h₀ h around go
    data_sent inside (d.signed z) rest es h₀ h around said is go none = text_case (signed_decimal z) rest es h₀ h around go
    data_sent inside (d.character c) rest es h₀ h around said is go none = text_case (encode_utf8 c) rest es h₀ h around go
    data_sent inside (d.text t) rest es h₀ h around said is go none = text_case t rest es h₀ h around go
    data_sent inside (d.bytes b) rest es h₀ h around said is go none = text_case b rest es h₀ h around go
    data_sent inside (d.sequence no_values) rest es h₀ h around said is go none = begins k.Items (e.seq_ends ∷ rest) es h₀ h around go
    data_sent inside (d.sequence (one_value x xs)) rest es h₀ h around said is go none =
        begins k.Items (sends_values (one_value x xs) (e.seq_ends ∷ rest)) es h₀ h around go
        ∙ values_sent (one_value x xs) 0 (e.seq_ends ∷ rest) es (h ∷ around) said.1 (omega (arith, said.0)) none
        ∙ full_list (0 + suc (values_count xs)) rest (es ++ (elements_from limit format 0 (one_value x xs) (within h around)).entries) h around (omega arith)
    data_sent inside (d.tuple no_values) rest es h₀ h around said is go none = begins k.Items (e.seq_ends ∷ rest) es h₀ h around go
    data_sent inside (d.tuple (one_value x xs)) rest es h₀ h around said is go none =
        begins k.Items (sends_values (one_value x xs) (e.seq_ends ∷ rest)) es h₀ h around go
        ∙ values_sent (one_value x xs) 0 (e.seq_ends ∷ rest) es (h ∷ around) said.1 (omega (arith, said.0)) none
        ∙ full_list (0 + suc (values_count xs)) rest (es ++ (elements_from limit format 0 (one_value x xs) (within h around)).entries) h around (omega arith)
    data_sent inside (d.mapping no_pairs) rest es h₀ h around said is go none =
        begins k.Members (e.map_ends ∷ rest) es h₀ h around go ∙ ap (λ b. ended_at b rest es h around) (is ∙ said)
    data_sent inside (d.mapping (one_pair key x ps)) rest es h₀ h around said is go none =
        begins k.Members (sends_pairs (one_pair key x ps) (e.map_ends ∷ rest)) es h₀ h around go
        ∙ pairs_sent (one_pair key x ps) 0 (e.map_ends ∷ rest) es (h ∷ around) said none
        ∙ full_map (counted_pairs ps (capped 1)) rest (es ++ (pair_entries limit format (one_pair key x ps) (within h around)).entries) h around (counted_some_pairs ps (capped 1) (one_more 0))
    data_sent inside (d.struct no_members) rest es h₀ h around said is go none =
        begins k.Members (e.map_ends ∷ rest) es h₀ h around go ∙ ap (λ b. ended_at b rest es h around) (is ∙ said) ∙ none_more rest es h.kind (capped (h.count + 1)) (capped (h.count + 1)) around refl
    data_sent inside (d.struct (one_member name x ms)) rest es h₀ h around said is go none =
        begins k.Members (sends_members (one_member name x ms) (e.map_ends ∷ rest)) es h₀ h around go
        ∙ members_sent (one_member name x ms) 0 (e.map_ends ∷ rest) es (h ∷ around) said none
        ∙ full_map (counted ms (capped 1)) rest (es ++ (member_entries limit format (one_member name x ms) (within h around)).entries) h around (counted_some ms (capped 1) (one_more 0))
    data_sent inside (d.newtype x) rest es h₀ h around said is go none = data_sent inside x rest es h₀ h around said is go none
    data_sent inside (d.unit_variant name) rest es h₀ h around said is go none =
        text_case (spelled AsIs Variant name) rest es h₀ h around go
        ∙ ap (λ t. all_sent config rest (at (es ++ record { path = within h around; value = Some t } ∷ []) (after h) around)) (spelled-AsIs Variant name)
    data_sent inside (d.newtype_variant name x) rest es h₀ h around said is go none =
        let mine = part_of k.Members 0 (Some name) in
        begins k.Members (e.variant_key name AsIs ∷ sends x (e.map_ends ∷ rest)) es h₀ h around go
        ∙ named Variant name (sends x (e.map_ends ∷ rest)) es 0 (h ∷ around) (entries_at limit format x) none
        ∙ data_sent true x (e.map_ends ∷ rest) es mine mine (h ∷ around) said refl refl (part_error (entries_at limit format x) name 0 (h ∷ around) none)
        ∙ variant_ends (entries_at limit format x) name rest es h around none
    data_sent inside (d.tuple_variant name no_values) rest es h₀ h around said is go none = absurd said
    data_sent inside (d.tuple_variant name (one_value x xs)) rest es h₀ h around said is go none =
        let mine = part_of k.Members 0 (Some name) in
        let part = elements_from limit format 0 (one_value x xs) in
        begins k.Members (e.variant_key name AsIs ∷ e.seq_begins (Some (suc (values_count xs))) ∷ sends_values (one_value x xs) (e.seq_ends ∷ e.map_ends ∷ rest)) es h₀ h around go
        ∙ named Variant name (e.seq_begins (Some (suc (values_count xs))) ∷ sends_values (one_value x xs) (e.seq_ends ∷ e.map_ends ∷ rest)) es 0 (h ∷ around) part none
        ∙ begins k.Items (sends_values (one_value x xs) (e.seq_ends ∷ e.map_ends ∷ rest)) es mine mine (h ∷ around) refl
        ∙ values_sent (one_value x xs) 0 (e.seq_ends ∷ e.map_ends ∷ rest) es (mine ∷ h ∷ around) (said.1, said.2) (omega (arith, said.0)) (part_error part name 0 (h ∷ around) none)
        ∙ full_list (0 + suc (values_count xs)) (e.map_ends ∷ rest) (es ++ (part (within mine (h ∷ around))).entries) mine (h ∷ around) (omega arith)
        ∙ variant_ends part name rest es h around none
    data_sent inside (d.struct_variant name no_members) rest es h₀ h around said is go none = absurd said
    data_sent inside (d.struct_variant name (one_member field x ms)) rest es h₀ h around said is go none =
        let mine = part_of k.Members 0 (Some name) in
        let part = member_entries limit format (one_member field x ms) in
        begins k.Members (e.variant_key name AsIs ∷ e.map_begins None ∷ sends_members (one_member field x ms) (e.map_ends ∷ e.map_ends ∷ rest)) es h₀ h around go
        ∙ named Variant name (e.map_begins None ∷ sends_members (one_member field x ms) (e.map_ends ∷ e.map_ends ∷ rest)) es 0 (h ∷ around) part none
        ∙ begins k.Members (sends_members (one_member field x ms) (e.map_ends ∷ e.map_ends ∷ rest)) es mine mine (h ∷ around) refl
        ∙ members_sent (one_member field x ms) 0 (e.map_ends ∷ e.map_ends ∷ rest) es (mine ∷ h ∷ around) said (part_error part name 0 (h ∷ around) none)
        ∙ full_map (counted ms (capped 1)) (e.map_ends ∷ rest) (es ++ (part (within mine (h ∷ around))).entries) mine (h ∷ around) (counted_some ms (capped 1) (one_more 0))
        ∙ variant_ends part name rest es h around none

    values_sent : (xs : Values) (i : ℕ) (rest : List Event) (es : List Entry) (ls : List Level) → AreSaidValues xs → i + values_count xs < 2 ^ 64 → (elements_from limit format i xs (path_of ls)).error ≡ None
        → all_sent config (sends_values xs rest) (at es (part_of k.Items i None) ls)
        ≡ all_sent config rest (at (es ++ (elements_from limit format i xs (path_of ls)).entries) (part_of k.Items (i + values_count xs) None) ls)
    values_sent no_values i rest es ls said few none = none_more rest es k.Items i (i + 0) ls (omega arith)
    values_sent (one_value x xs) i rest es ls said few none =
        let segment = element_segment format i in
        let first = maybe_deeper limit (path_of ls) segment (entries_at limit format x) in
        let others = elements_from limit format (i + 1) xs (path_of ls) in
        let both = both_none first others none in
        let mine = part_of k.Items i segment in
        let go = item_goes k.Items i es ls (entries_at limit format x) segment both.0 in
        data_sent true x (sends_values xs rest) es (part_of k.Items i None) mine ls said.0 refl go.0 (ap (λ (o : Output). o.error) (sym go.1) ∙ both.0)
        ∙ ap₂ (λ (o : Output) c. all_sent config (sends_values xs rest) (at (es ++ o.entries) (part_of k.Items c None) ls)) (sym go.1) (capped_is (i + 1) (omega (arith, few)))
        ∙ values_sent xs (i + 1) rest (es ++ first.entries) ls said.1 (omega (arith, few)) both.1
        ∙ joined rest es first.entries others.entries (and_then first others).entries k.Items (i + 1 + values_count xs) (i + suc (values_count xs)) ls both.2 (omega arith)

    pairs_sent : (ps : Pairs) (m : ℕ) (rest : List Event) (es : List Entry) (ls : List Level) → AreSaidPairs ps → (pair_entries limit format ps (path_of ls)).error ≡ None
        → all_sent config (sends_pairs ps rest) (at es (part_of k.Members m None) ls)
        ≡ all_sent config rest (at (es ++ (pair_entries limit format ps (path_of ls)).entries) (part_of k.Members (counted_pairs ps m) None) ls)
    pairs_sent no_pairs m rest es ls said none = none_more rest es k.Members m m ls refl
    pairs_sent (one_pair key x ps) m rest es ls said none =
        let part = entries_at limit format x in
        let first = under_key limit (path_of ls) (key_text key) part in
        let others = pair_entries limit format ps (path_of ls) in
        let both = both_none first others none in
        let name = key_is key (path_of ls) part both.0 in
        let deep = ap (λ (o : Output). o.error) (sym name.2) ∙ both.0 in
        let mine = part_of k.Members m (Some name.0) in
        keyed_sent key name.0 (sends x (sends_pairs ps rest)) es m ls part name.1 deep
        ∙ part_sent part name.0 m (sends_pairs ps rest) (sends x (sends_pairs ps rest)) es ls deep (data_sent true x (sends_pairs ps rest) es mine mine ls said.0 refl refl (part_error part name.0 m ls deep))
        ∙ ap (λ (o : Output). all_sent config (sends_pairs ps rest) (at (es ++ o.entries) (part_of k.Members (capped (m + 1)) None) ls)) (sym name.2)
        ∙ pairs_sent ps (capped (m + 1)) rest (es ++ first.entries) ls said.1 both.1
        ∙ joined rest es first.entries others.entries (and_then first others).entries k.Members (counted_pairs ps (capped (m + 1))) (counted_pairs ps (capped (m + 1))) ls both.2 refl

    members_sent : (ms : Members) (m : ℕ) (rest : List Event) (es : List Entry) (ls : List Level) → AreSaidMembers ms → (member_entries limit format ms (path_of ls)).error ≡ None
        → all_sent config (sends_members ms rest) (at es (part_of k.Members m None) ls)
        ≡ all_sent config rest (at (es ++ (member_entries limit format ms (path_of ls)).entries) (part_of k.Members (counted ms m) None) ls)
    members_sent no_members m rest es ls said none = none_more rest es k.Members m m ls refl
    members_sent (one_member name x ms) m rest es ls said none =
        let part = entries_at limit format x in
        let first = deeper limit (path_of ls) name part in
        let others = member_entries limit format ms (path_of ls) in
        let both = both_none first others none in
        let mine = part_of k.Members m (Some name) in
        named Field name (sends x (sends_members ms rest)) es m ls part both.0
        ∙ part_sent part name m (sends_members ms rest) (sends x (sends_members ms rest)) es ls both.0 (data_sent true x (sends_members ms rest) es mine mine ls said.0 refl refl (part_error part name m ls both.0))
        ∙ members_sent ms (capped (m + 1)) rest (es ++ first.entries) ls said.1 both.1
        ∙ joined rest es first.entries others.entries (and_then first others).entries k.Members (counted ms (capped (m + 1))) (counted ms (capped (m + 1))) ls both.2 refl

  pub have_their_text : (x : Data) → AreSaid false x → (entries config x).error ≡ None → text_of_sent config (sends x []) ≡ Some (written config.is_form false (entries config x).entries)
  have_their_text x said none =
      ap (option_map (λ (s : State). written config.is_form false s.entries)) (data_sent false x [] [] (part_of k.Top 0 None) (part_of k.Top 0 None) [] said refl refl none)
