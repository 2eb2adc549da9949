-- In the indexed format the entries of plain data are apart: no path begins with another's.
use Rattle.std.proofs.Common.{◌≡◌, ℕ, ◌+◌, ◌≤◌, ◌<◌, Bool, true, false, not, ◌&&◌, ◌||◌, cond, nat_lt, List, [], ◌∷◌, ◌++◌, Option, Some, None, refl, sym, ap, ap₂, ◌∙◌, subst, arith, decimal, append-nil, append_assoc, length}
use Rattle.std.specs.List.{AllByRecursion}
use Rattle.std.specs.Str.{bytes_eq}
use Rattle.std.proofs.lemmas.Bool.Decides.{nat_tests}
use Rattle.std.proofs.lemmas.Fmt.{decimal_injective}
use Rattle.qs_spec.specs.Config.{Config, indexed}
use Rattle.qs_spec.specs.Data.{Data, Values, no_values, one_value, Pairs, no_pairs, one_pair, Members, no_members, one_member}
use Rattle.qs_spec.specs.Entry.{Path, Entry, EntryError, Output, failure, follow, and_then, deeper, under_key, key_text, entries, entries_at, elements_from, pair_entries, member_entries}
use Rattle.qs_spec.specs.Entry.EntryError.{too_deep}
use Rattle.qs_spec.specs.Plain.{is_plain, are_plain, are_plain_pairs, are_plain_members, is_plain_key, is_plain_name, is_text_of, is_written_key, is_member_name, written_keys_differ, member_names_differ, has_members, has_values, are_few, count, is_optional}
use Rattle.qs_spec.specs.ReadBack.{is_prefix, ArePathsApart}
use Rattle.qs_spec.proofs.Booleans.{and_both, or_both, not_of}
use Rattle.qs_spec.proofs.VariantNames.{bytes_same, bytes_equal}
use Rattle.qs_spec.proofs.Placed.{all_join}

-- the entry is below the path and the segment after it
record Below (path : Path) (s : List ℕ) (e : Entry) : Type 0 where
  rest : Path
  is : e.path ≡ path ++ s ∷ rest

-- the entry is below the path and another segment than this one
record Beside (path : Path) (s : List ℕ) (e : Entry) : Type 0 where
  segment : List ℕ
  other : s ≡ segment → ⊥
  below : Below path segment e

abbrev AllBelow : Path → List ℕ → List Entry → Type 0
AllBelow path s es = AllByRecursion (Below path s) es

abbrev AllBeside : Path → List ℕ → List Entry → Type 0
AllBeside path s es = AllByRecursion (Beside path s) es

-- the entry's path begins with this one
record Under (path : Path) (e : Entry) : Type 0 where
  rest : Path
  is : e.path ≡ path ++ rest

differ : (s t : List ℕ) → (s ≡ t → ⊥) → bytes_eq s t ≡ false
differ s t n = by (bytes_eq s t) refl
  where
    by : (b : Bool) → bytes_eq s t ≡ b → bytes_eq s t ≡ false
    by true e = absurd (n (bytes_equal s t e))
    by false e = e

-- paths that go on by other segments
no_prefix : (path : Path) (s t : List ℕ) (a b : Path) → (s ≡ t → ⊥) → is_prefix (path ++ s ∷ a) (path ++ t ∷ b) ≡ false
no_prefix [] s t a b n = ap (λ x. x && is_prefix a b) (differ s t n)
no_prefix (p ∷ path) s t a b n = ap₂ (λ x y. x && y) (bytes_same p) (no_prefix path s t a b n)

abbrev AreApart : Entry → Entry → Type 0
AreApart e f = (is_prefix e.path f.path || is_prefix f.path e.path) ≡ false

apart : (path : Path) (s : List ℕ) (e f : Entry) → Below path s e → Beside path s f → AreApart e f
apart path s e f b c =
    ap₂ (λ (x y : Path). is_prefix x y || is_prefix y x) b.is c.below.is
    ∙ ap₂ (λ x y. x || y) (no_prefix path s c.segment b.rest c.below.rest c.other) (no_prefix path c.segment s c.below.rest b.rest (λ e. c.other (sym e)))

-- entries below a segment, and others beside it
joined : (path : Path) (s : List ℕ) (es fs : List Entry) → AllBelow path s es → AllBeside path s fs → ArePathsApart es → ArePathsApart fs → ArePathsApart (es ++ fs)
joined path s [] fs b c h i = i
joined path s (e ∷ es) fs b c h i = (all_join (AreApart e) es fs h.0 (each fs c), joined path s es fs b.1 c h.1 i)
  where
    each : (fs : List Entry) → AllBeside path s fs → AllByRecursion (AreApart e) fs
    each [] c = tt
    each (f ∷ fs) c = (apart path s e f b.0 c.0, each fs c.1)

-- What holds of the entries of two outputs holds of those of one after the other, of which the second may be left out.
both_apart : (path : Path) (s : List ℕ) (es : List Entry) (r : Option EntryError) (o : Output) → AllBelow path s es → AllBeside path s o.entries → ArePathsApart es → ArePathsApart o.entries
    → ArePathsApart (follow es r o).entries
both_apart path s es None o b c h i = joined path s es o.entries b c h i
both_apart path s es (Some r) o b c h i = h

all_follow : (P : Entry → Type 0) (es : List Entry) (r : Option EntryError) (o : Output) → AllByRecursion P es → AllByRecursion P o.entries → AllByRecursion P (follow es r o).entries
all_follow P es None o h i = all_join P es o.entries h i
all_follow P es (Some r) o h i = h

-- what is under one more segment, if anything is
deeper_all : (P : List Entry → Type 0) → P [] → (limit : ℕ) (path : Path) (s : List ℕ) (part : Path → Output) → P (part (path ++ s ∷ [])).entries → P (deeper limit path s part).entries
unfolding deeper
deeper_all P none limit path s part h = by (nat_lt limit (length path))
  where
    by : (b : Bool) → P (cond b (failure too_deep) (part (path ++ s ∷ []))).entries
    by true = none
    by false = h

under_below : (path : Path) (s : List ℕ) (es : List Entry) → AllByRecursion (Under (path ++ s ∷ [])) es → AllBelow path s es
under_below path s [] h = tt
under_below path s (e ∷ es) h = (record { rest = h.0.rest; is = h.0.is ∙ append_assoc path (s ∷ []) h.0.rest }, under_below path s es h.1)

below_under : (path : Path) (s : List ℕ) (es : List Entry) → AllBelow path s es → AllByRecursion (Under path) es
below_under path s [] h = tt
below_under path s (e ∷ es) h = (record { rest = s ∷ h.0.rest; is = h.0.is }, below_under path s es h.1)

below_beside : (path : Path) (s t : List ℕ) (es : List Entry) → (s ≡ t → ⊥) → AllBelow path t es → AllBeside path s es
below_beside path s t [] n h = tt
below_beside path s t (e ∷ es) n h = (record { segment = t; other = n; below = h.0 }, below_beside path s t es n h.1)

itself : (path : Path) (v : Option (List ℕ)) → AllByRecursion (Under path) (record { path = path; value = v } ∷ [])
itself path v = (record { rest = []; is = sym (append-nil path) }, tt)

-- what the entries at a path are
abbrev AreApartAt : Path → List Entry → Type 0
AreApartAt path es = AllByRecursion (Under path) es × ArePathsApart es

nothing_at : (path : Path) → AreApartAt path []
nothing_at path = (tt, tt)

one_at : (path : Path) (v : Option (List ℕ)) → AreApartAt path (record { path = path; value = v } ∷ [])
one_at path v = (itself path v, (tt, tt))

-- a part under one more segment: below that, apart, and beside each other one
deeper_at : (limit : ℕ) (path : Path) (s : List ℕ) (part : Path → Output) → AreApartAt (path ++ s ∷ []) (part (path ++ s ∷ [])).entries
    → AllBelow path s (deeper limit path s part).entries × ArePathsApart (deeper limit path s part).entries
deeper_at limit path s part h = deeper_all (λ es. AllBelow path s es × ArePathsApart es) (tt, tt) limit path s part (under_below path s (part (path ++ s ∷ [])).entries h.0, h.1)

alone_at : (path : Path) (s : List ℕ) (es : List Entry) → AllBelow path s es × ArePathsApart es → AreApartAt path es
alone_at path s es h = (below_under path s es h.0, h.1)

-- entries below a segment, and an output beside it, unless there is an error before it
then_at : (path : Path) (s : List ℕ) (a b : Output) → AllBelow path s a.entries × ArePathsApart a.entries → AllBeside path s b.entries → AreApartAt path b.entries → AreApartAt path (and_then a b).entries
then_at path s a b h c i = (
  all_follow (Under path) a.entries a.error b (below_under path s a.entries h.0) i.0,
  both_apart path s a.entries a.error b h.0 c h.1 i.1,
)

-- the same of what is beside one segment
then_beside : (path : Path) (s t : List ℕ) (a b : Output) → (s ≡ t → ⊥) → AllBelow path t a.entries → AllBeside path s b.entries → AllBeside path s (and_then a b).entries
then_beside path s t a b n h c = all_follow (Beside path s) a.entries a.error b (below_beside path s t a.entries n h) c

not_named : (s n : List ℕ) → bytes_eq n s ≡ false → s ≡ n → ⊥
not_named s n f e = let w = sym (bytes_same n) ∙ ap (bytes_eq n) (sym e) ∙ f in true_is_false w
  where
    true_is_false : true ≡ false → ⊥
    true_is_false e = cc

less_differ : (i j : ℕ) → i < j → j ≤ 4294967295 → decimal i ≡ decimal j → ⊥
less_differ i j l m e = let s = decimal_injective i j (omega arith) (omega arith) e in omega arith

few : (ds : Values) → are_few ds ≡ true → 0 + count ds ≤ 4294967295
few ds e = grind (arith, nat_tests)

plain_list : (is_form : Bool) (ds : Values) → (are_few ds && are_plain is_form ds) ≡ true → (0 + count ds ≤ 4294967295) × (are_plain is_form ds ≡ true)
plain_list is_form ds e = let h = and_both (are_few ds) (are_plain is_form ds) e in (few ds h.0, h.1)

-- a pair, and the others: nothing where its key has no text
pair_at : (limit : ℕ) (path : Path) (key : Option (List ℕ)) (ps : Pairs) (part : Path → Output) (b : Output) → is_written_key key ps ≡ false → ((p : Path) → AreApartAt p (part p).entries)
    → ((t : List ℕ) → is_written_key (Some t) ps ≡ false → AllBeside path t b.entries) → AreApartAt path b.entries → AreApartAt path (and_then (under_key limit path key part) b).entries
pair_at limit path None ps part b n h c i = nothing_at path
pair_at limit path (Some t) ps part b n h c i = then_at path t _ b (deeper_at limit path t part (h (path ++ t ∷ []))) (c t n) i

pair_beside : (limit : ℕ) (path : Path) (t : List ℕ) (key : Option (List ℕ)) (part : Path → Output) (b : Output) → is_text_of t key ≡ false → ((p : Path) → AreApartAt p (part p).entries)
    → AllBeside path t b.entries → AllBeside path t (and_then (under_key limit path key part) b).entries
pair_beside limit path t None part b n h c = tt
pair_beside limit path t (Some u) part b n h c = then_beside path t u _ b (not_named t u n) (deeper_at limit path u part (h (path ++ u ∷ []))).0 c

module _ (is_form : Bool) (limit : ℕ) where
  mutual
    unfolding entries_at elements_from pair_entries member_entries

    data_at : (d : Data) (path : Path) → is_plain is_form d ≡ true → AreApartAt path (entries_at limit indexed d path).entries
    data_at Data.unit path e = one_at path _
    data_at Data.none path e = one_at path _
    data_at (Data.some d) path e = data_at d path (and_both (not (is_optional d)) (is_plain is_form d) e).1
    data_at (Data.boolean b) path e = one_at path _
    data_at (Data.unsigned n) path e = one_at path _
    data_at (Data.signed n) path e = one_at path _
    data_at (Data.character c) path e = one_at path _
    data_at (Data.text t) path e = one_at path _
    data_at (Data.bytes b) path e = one_at path _
    data_at (Data.sequence no_values) path e = one_at path _
    data_at (Data.sequence (one_value d ds)) path e = let h = plain_list is_form (one_value d ds) e in values_at 0 (one_value d ds) path h.0 h.1
    data_at (Data.tuple no_values) path e = one_at path _
    data_at (Data.tuple (one_value d ds)) path e = let h = plain_list is_form (one_value d ds) e in values_at 0 (one_value d ds) path h.0 h.1
    data_at (Data.mapping no_pairs) path e = one_at path _
    data_at (Data.mapping (one_pair k d ps)) path e =
        let h = and_both (written_keys_differ (one_pair k d ps)) (are_plain_pairs is_form (one_pair k d ps)) e in pairs_at (one_pair k d ps) path h.0 h.1
    data_at (Data.struct ms) path e =
        let h = and_both (has_members ms && member_names_differ ms) (are_plain_members is_form ms) e in
        members_at ms path (and_both (has_members ms) (member_names_differ ms) h.0).1 h.1
    data_at (Data.newtype d) path e = data_at d path e
    data_at (Data.unit_variant name) path e = one_at path _
    data_at (Data.newtype_variant name d) path e =
        let h = and_both (is_plain_name is_form name) (is_plain is_form d) e in
        alone_at path name _ (deeper_at limit path name (entries_at limit indexed d) (data_at d (path ++ name ∷ []) h.1))
    data_at (Data.tuple_variant name ds) path e =
        let h = and_both (is_plain_name is_form name && has_values ds && are_few ds) (are_plain is_form ds) e in
        let g = and_both (is_plain_name is_form name && has_values ds) (are_few ds) h.0 in
        alone_at path name _ (deeper_at limit path name (elements_from limit indexed 0 ds) (values_at 0 ds (path ++ name ∷ []) (few ds g.1) h.1))
    data_at (Data.struct_variant name ms) path e =
        let h = and_both (is_plain_name is_form name && has_members ms && member_names_differ ms) (are_plain_members is_form ms) e in
        let g = and_both (is_plain_name is_form name && has_members ms) (member_names_differ ms) h.0 in
        alone_at path name _ (deeper_at limit path name (member_entries limit indexed ms) (members_at ms (path ++ name ∷ []) g.1 h.1))

    values_at : (i : ℕ) (ds : Values) (path : Path) → i + count ds ≤ 4294967295 → are_plain is_form ds ≡ true → AreApartAt path (elements_from limit indexed i ds path).entries
    values_at i no_values path l e = nothing_at path
    values_at i (one_value d ds) path l e =
        let h = and_both (is_plain is_form d) (are_plain is_form ds) e in
        then_at path (decimal i) _ (elements_from limit indexed (i + 1) ds path) (deeper_at limit path (decimal i) (entries_at limit indexed d) (data_at d (path ++ decimal i ∷ []) h.0))
        (values_beside i (i + 1) ds path (omega arith) (omega arith) h.1) (values_at (i + 1) ds path (omega arith) h.1)

    values_beside : (i j : ℕ) (ds : Values) (path : Path) → i < j → j + count ds ≤ 4294967295 → are_plain is_form ds ≡ true → AllBeside path (decimal i) (elements_from limit indexed j ds path).entries
    values_beside i j no_values path l m e = tt
    values_beside i j (one_value d ds) path l m e =
        let h = and_both (is_plain is_form d) (are_plain is_form ds) e in
        then_beside path (decimal i) (decimal j) _ (elements_from limit indexed (j + 1) ds path) (less_differ i j l (omega arith)) (deeper_at limit path (decimal j) (entries_at limit indexed d) (data_at d (path ++ decimal j ∷ []) h.0)).0
        (values_beside i (j + 1) ds path (omega arith) (omega arith) h.1)

    pairs_at : (ps : Pairs) (path : Path) → written_keys_differ ps ≡ true → are_plain_pairs is_form ps ≡ true → AreApartAt path (pair_entries limit indexed ps path).entries
    pairs_at no_pairs path u e = nothing_at path
    pairs_at (one_pair k d ps) path u e =
        let g = and_both (not (is_written_key (key_text k) ps)) (written_keys_differ ps) u in
        let h = and_both (is_plain_key is_form k && is_plain is_form d) (are_plain_pairs is_form ps) e in
        let x = and_both (is_plain_key is_form k) (is_plain is_form d) h.0 in
        pair_at limit path (key_text k) ps (entries_at limit indexed d) (pair_entries limit indexed ps path) (not_of (is_written_key (key_text k) ps) g.0) (λ p. data_at d p x.1) (λ t n. pairs_beside t ps path n h.1) (pairs_at ps path g.1 h.1)

    pairs_beside : (t : List ℕ) (ps : Pairs) (path : Path) → is_written_key (Some t) ps ≡ false → are_plain_pairs is_form ps ≡ true → AllBeside path t (pair_entries limit indexed ps path).entries
    pairs_beside t no_pairs path n e = tt
    pairs_beside t (one_pair k d ps) path n e =
        let g = or_both (is_text_of t (key_text k)) (is_written_key (Some t) ps) n in
        let h = and_both (is_plain_key is_form k && is_plain is_form d) (are_plain_pairs is_form ps) e in
        pair_beside limit path t (key_text k) (entries_at limit indexed d) (pair_entries limit indexed ps path) g.0 (λ p. data_at d p (and_both (is_plain_key is_form k) (is_plain is_form d) h.0).1) (pairs_beside t ps path g.1 h.1)

    members_at : (ms : Members) (path : Path) → member_names_differ ms ≡ true → are_plain_members is_form ms ≡ true → AreApartAt path (member_entries limit indexed ms path).entries
    members_at no_members path u e = nothing_at path
    members_at (one_member n d ms) path u e =
        let g = and_both (not (is_member_name n ms)) (member_names_differ ms) u in
        let h = and_both (is_plain_name is_form n && is_plain is_form d) (are_plain_members is_form ms) e in
        then_at path n _ (member_entries limit indexed ms path) (deeper_at limit path n (entries_at limit indexed d) (data_at d (path ++ n ∷ []) (and_both (is_plain_name is_form n) (is_plain is_form d) h.0).1))
        (members_beside n ms path (not_of (is_member_name n ms) g.0) h.1) (members_at ms path g.1 h.1)

    members_beside : (s : List ℕ) (ms : Members) (path : Path) → is_member_name s ms ≡ false → are_plain_members is_form ms ≡ true → AllBeside path s (member_entries limit indexed ms path).entries
    members_beside s no_members path u e = tt
    members_beside s (one_member n d ms) path u e =
        let g = or_both (bytes_eq n s) (is_member_name s ms) u in
        let h = and_both (is_plain_name is_form n && is_plain is_form d) (are_plain_members is_form ms) e in
        then_beside path s n _ (member_entries limit indexed ms path) (not_named s n g.0)
        (deeper_at limit path n (entries_at limit indexed d) (data_at d (path ++ n ∷ []) (and_both (is_plain_name is_form n) (is_plain is_form d) h.0).1)).0 (members_beside s ms path g.1 h.1)

-- No entry of plain data has the path of another, or one that begins it, whatever the depth limit leaves of them.
pub entries_apart : (config : Config) (d : Data) → config.array_format ≡ indexed → is_plain config.is_form d ≡ true → ArePathsApart (entries config d).entries
entries_apart config d e p = subst (λ f. ArePathsApart (entries_at config.max_depth f d []).entries) (sym e) (data_at config.is_form config.max_depth d [] p).1
