-- The fields of a struct, as their entries are read.
use Rattle.std.proofs.Common.{◌≡◌, inl, inr, ℕ, zero, suc, ◌==◌, ◌||◌, ◌&&◌, not, cond, Any, HoldsAt, ◌+◌, ◌<◌, ◌≤◌, Bool, true, false, List, [], ◌∷◌, length, slice_get, Option, Some, None, IsSome, is_some, refl, sym, ap, subst, ◌∙◌, arith}
use Rattle.std.specs.Option.{option_map, option_and_then}
use Rattle.std.specs.Borrow.{Bor}
use Rattle.qs_data.proofs.Common.{cases_Bool, false≢true, nat_tests}
use Rattle.std.specs.Str.{bytes_eq, is_utf8}
use Rattle.std.proofs.lemmas.Option.{same_Some}
use Rattle.qs_spec.proofs.VariantNames.{bytes_equal}
use Rattle.qs_data.proofs.lemmas.read.Lookups.{bytes_eq_same}
use Rattle.serde.specs.Names.{Finds, StandsFor}
use Rattle.serde.specs.declared.name.Name.{Name}
use Rattle.qs_serde.specs.Lookups.{FindsText, LooksUp}
use Rattle.qs_spec.specs.Data as d
use Rattle.qs_spec.specs.Shape as s
use Rattle.qs_spec.specs.Leaf.Leaf.{NoValue, Null, Text}
use Rattle.qs_spec.specs.Node.{found, keys_are_names, keys_are_text}
use Rattle.qs_spec.specs.Segment.{ParsedSegment, segment_text}
use Rattle.qs_spec.specs.Tree.{Tree, Entries, Items}
use Rattle.qs_spec.specs.Tree.Entries.{no_entries, entry}
use Rattle.qs_spec.specs.Tree.Tree.{leaf, sequence, mapping, uninitialized}
use Rattle.qs_spec.specs.internal.ReadFunction.{Reader, reads, reads_names, read_field, struct_members, with_field}
use Rattle.qs_tree.specs.declared.tree.value.ParsedValue.{ParsedValue}
use Rattle.qs_tree.specs.tree.Views.{entry_list, tree_of}
use Rattle.qs_serde.specs.Nodes.{key_tree, pairs_in}
use Rattle.qs_serde.specs.Places.{count_of, is_tried_part, part_tree}
use Rattle.qs_serde.specs.Runs.{AreNamed, collected, field_at, read_of, slot}
use Rattle.qs_serde.specs.Steps.{HasNoEntry, is_whole, kind_of_struct, node_at_part, part_struct}
use Rattle.qs_serde.specs.declared.reading.frame.Frame.{Frame}
use Rattle.qs_serde.specs.declared.reading.frame.FrameKind.TheVariants as k
use Rattle.qs_serde.specs.declared.reading.node.Part.{Part}
use Rattle.qs_serde.specs.declared.reading.node.Part.TheVariants as p
use Rattle.qs_serde.specs.declared.reading.format.TreeFormat.{TreeFormat}
use Rattle.qs_serde.proofs.RunLevels.{AfterItem}

-- the entries from an index on
abbrev pub after : ℕ → Entries → Entries
after zero es = es
after (suc n) no_entries = no_entries
after (suc n) (entry key m t es) = after n es

pub after_none : (n : ℕ) (es : Entries) → slice_get (entry_list es) n ≡ None → after n es ≡ no_entries
after_none zero no_entries h = refl
after_none zero (entry key m t es) h = absurd cc
after_none (suc n) no_entries h = refl
after_none (suc n) (entry key m t es) h = after_none n es h

pub after_some : (n : ℕ) (es : Entries) (x : ParsedSegment × Tree) → slice_get (entry_list es) n ≡ Some x → after n es ≡ entry x.0.segment x.0.escaped x.1 (after (suc n) es)
after_some zero no_entries x h = absurd cc
after_some zero (entry key m t es) x h = ap (λ (y : ParsedSegment × Tree). entry y.0.segment y.0.escaped y.1 es) (same_Some _ _ h)
after_some (suc n) no_entries x h = absurd cc
after_some (suc n) (entry key m t es) x h = after_some n es x h

-- each tree was read
abbrev pub AllRead : Reader → List Tree → List d.Data → Type 0
AllRead r [] [] = Unit {0}
AllRead r (t ∷ ts) (x ∷ xs) = (r t ≡ Some x) × AllRead r ts xs
AllRead r _ _ = ⊥

pub field_slot : (o q : Bool) (r : Reader) (ts : List Tree) (xs : List d.Data) → AllRead r ts xs → read_field o q r ts ≡ slot o q xs
field_slot o q r [] [] h = refl
field_slot o q r (t ∷ []) (x ∷ []) h = ap (option_map Some) h.0
field_slot o q r (t ∷ u ∷ ts) (x ∷ y ∷ xs) h = refl
field_slot o q r [] (x ∷ xs) h = absurd h
field_slot o q r (t ∷ ts) [] h = absurd h
field_slot o q r (t ∷ []) (x ∷ y ∷ xs) h = absurd h.1
field_slot o q r (t ∷ u ∷ ts) (x ∷ []) h = absurd h.1

pub step_read : (r : Reader) (b c : Bool) (t : Tree) (x : d.Data) (ts : List Tree) (xs : List d.Data) → b ≡ c → (c ≡ true → r t ≡ Some x) → AllRead r ts xs → AllRead r (cond b (t ∷ ts) ts) (cond c (x ∷ xs) xs)
step_read r true true t x ts xs e got h = (got refl, h)
step_read r false false t x ts xs e got h = h
step_read r true false t x ts xs e got h = absurd cc
step_read r false true t x ts xs e got h = absurd cc

pub skip_read : (r : Reader) (b : Bool) (t : Tree) (ts : List Tree) (xs : List d.Data) → b ≡ false → AllRead r ts xs → AllRead r (cond b (t ∷ ts) ts) xs
skip_read r false t ts xs e h = h
skip_read r true t ts xs e h = absurd cc

pub fields_read : (rd : Bool) (i : ℕ) (fs : s.Fields) (es : Entries) (ms : List (ℕ × d.Data)) → ((j : ℕ) (f : s.Field) → field_at fs j ≡ Some f → AllRead (reads rd f.1) (found f.0 es) (read_of (i + j) ms))
    → reads_names rd fs es ≡ collected i fs ms
unfolding reads
fields_read rd i s.no_fields es ms h = refl
fields_read rd i (s.one_field name a o fs) es ms h =
    let zero_more : i + 0 ≡ i = omega arith in
    let head = subst (λ m. AllRead (reads rd a) (found name es) (read_of m ms)) zero_more (h 0 (name, a, o) refl) in
    let rest = fields_read rd (suc i) fs es ms (λ j f e. let more : i + suc j ≡ suc i + j = omega arith in subst (λ m. AllRead (reads rd f.1) (found f.0 es) (read_of m ms)) more (h (suc j) f e)) in
    ap (option_and_then (λ x. with_field name x (reads_names rd fs es))) (field_slot o (s.is_option a) (reads rd a) (found name es) (read_of i ms) head)
    ∙ ap (λ r. option_and_then (λ x. with_field name x r) (slot o (s.is_option a) (read_of i ms))) rest

-- the names
pub no_alias : (t : List ℕ) (as_given : List (Bor (List ℕ))) → as_given ≡ [] → Any (λ (a : Bor (List ℕ)). a.now ≡ t) as_given → ⊥
no_alias t xs e any = let lt : any.0 < length {A = Bor (List ℕ)} [] = subst (λ ys. any.0 < length ys) e any.2 in none_below any.0 lt where
  none_below : (i : ℕ) → i < length {A = Bor (List ℕ)} [] → ⊥
  none_below i h = omega (h, arith)

pub named_at : (names : List Name) (fs : s.Fields) → AreNamed names fs → (j : ℕ) (f : s.Field) → field_at fs j ≡ Some f
    → (j < length names) × ((t : List ℕ) → HoldsAt (StandsFor t) names j → t ≡ f.0) × ((t : List ℕ) → t ≡ f.0 → HoldsAt (StandsFor t) names j)
named_at [] s.no_fields h j f e = absurd cc
named_at [] (s.one_field name a o fs) h j f e = absurd h
named_at (n ∷ ns) s.no_fields h j f e = absurd h
named_at (n ∷ ns) (s.one_field name a o fs) h zero f e =
    let name_is : name ≡ f.0 = ap (λ (g : s.Field). g.0) (same_Some _ _ e) in (
      omega arith,
      (λ t q. elim (q n).1 [ inl is ↦ is ∙ h.0.2 ∙ name_is | inr any ↦ absurd (no_alias t n.aliases.now h.0.1 any) ]),
      (λ t is. λ dflt. (h.0.0, inl (is ∙ sym name_is ∙ sym h.0.2))),
    )
named_at (n ∷ ns) (s.one_field name a o fs) h (suc j) f e =
    let rest = named_at ns fs h.1 j f e in
    let lt : j < length ns = rest.0 in
    (omega (lt, arith), rest.1, rest.2)

pub is_name : (fs : s.Fields) (j : ℕ) (f : s.Field) → field_at fs j ≡ Some f → s.is_field_name f.0 fs ≡ true
is_name s.no_fields j f e = absurd cc
is_name (s.one_field name a o fs) zero f e = let name_is : name ≡ f.0 = ap (λ (g : s.Field). g.0) (same_Some _ _ e) in rw (bytes_eq_same name f.0 name_is) refl
is_name (s.one_field name a o fs) (suc j) f e = or_right (bytes_eq name f.0) (s.is_field_name f.0 fs) (is_name fs j f e) where
  or_right : (b c : Bool) → c ≡ true → (b || c) ≡ true
  or_right true c h = refl
  or_right false c h = h

pub both_true : (b c : Bool) → (not b && c) ≡ true → (b ≡ false) × (c ≡ true)
both_true true c h = absurd cc
both_true false c h = (refl, h)

pub differ_at : (fs : s.Fields) → s.field_names_differ fs ≡ true → (i j : ℕ) (f g : s.Field) → field_at fs i ≡ Some f → field_at fs j ≡ Some g → f.0 ≡ g.0 → i ≡ j
differ_at s.no_fields h i j f g a b e = absurd cc
differ_at (s.one_field name c o fs) h zero zero f g a b e = refl
differ_at (s.one_field name c o fs) h zero (suc j) f g a b e =
    let name_is : name ≡ g.0 = ap (λ (x : s.Field). x.0) (same_Some _ _ a) ∙ e in
    absurd (false≢true (sym (both_true _ _ h).0 ∙ ap (λ x. s.is_field_name x fs) name_is ∙ is_name fs j g b))
differ_at (s.one_field name c o fs) h (suc i) zero f g a b e =
    let name_is : name ≡ f.0 = ap (λ (x : s.Field). x.0) (same_Some _ _ b) ∙ sym e in
    absurd (false≢true (sym (both_true _ _ h).0 ∙ ap (λ x. s.is_field_name x fs) name_is ∙ is_name fs i f a))
differ_at (s.one_field name c o fs) h (suc i) (suc j) f g a b e = ap suc (differ_at fs (both_true _ _ h).1 i j f g a b e)

pub same_index : (i j : ℕ) → (i == j) ≡ true → i ≡ j
same_index i j h = grind (arith, nat_tests, h)

pub is_index : (i j : ℕ) → i ≡ j → (i == j) ≡ true
is_index i j h = grind (arith, nat_tests, h)

pub looked_up : (names : List Name) (at : ℕ) (x : ParsedSegment × Tree) → LooksUp (key_tree (Some x)) names at → Finds names (segment_text x.0.segment) at × (is_utf8 (segment_text x.0.segment) ≡ true)
unfolding FindsText
looked_up names at x h = h

-- whether the key is a field's name
module _ (names : List Name) (fs : s.Fields) (named : AreNamed names fs) (differ : s.field_names_differ fs ≡ true) (t : List ℕ) (at : ℕ) (finds : Finds names t at) where
  pub is_found : (g : s.Field) → field_at fs at ≡ Some g → (j : ℕ) (f : s.Field) → field_at fs j ≡ Some f → bytes_eq t f.0 ≡ (at == j)
  is_found g here j f e =
      let of_g = named_at names fs named at g here in
      let is_g : t ≡ g.0 = of_g.1 t (finds.0 of_g.0) in
      elim (cases_Bool (at == j)) [
        | inl same ↦
            let f_is : g ≡ f = same_Some _ _ (sym here ∙ ap (field_at fs) (same_index at j same) ∙ e) in
            bytes_eq_same t f.0 (is_g ∙ ap (λ (x : s.Field). x.0) f_is) ∙ sym same
        | inr other ↦ elim (cases_Bool (bytes_eq t f.0)) [
          | inl is ↦
              let index : at ≡ j = differ_at fs differ at j g f here e (sym is_g ∙ bytes_equal t f.0 is) in
              absurd (false≢true (sym other ∙ is_index at j index))
          | inr not ↦ not ∙ sym other
        ]
      ]

  pub is_field : (g : s.Field) → field_at fs at ≡ Some g → s.is_field_name t fs ≡ true
  is_field g here = let of_g = named_at names fs named at g here in ap (λ x. s.is_field_name x fs) (of_g.1 t (finds.0 of_g.0)) ∙ is_name fs at g here

  pub not_found : length names ≤ at → (j : ℕ) (f : s.Field) → field_at fs j ≡ Some f → bytes_eq t f.0 ≡ false
  not_found past j f e =
      let of_f = named_at names fs named j f e in
      let lt : j < length names = of_f.0 in
      let before : j < at = omega (lt, past, arith) in
      elim (cases_Bool (bytes_eq t f.0)) [
        | inl is ↦ absurd (finds.1 j before lt (of_f.2 t (bytes_equal t f.0 is)))
        | inr not ↦ not
      ]

-- the entries that a struct reads
abbrev pub entries_in : Tree → Entries
entries_in (mapping es) = es
entries_in _ = no_entries

abbrev pub IsOfStruct : Tree → Type 0
IsOfStruct (leaf NoValue) = Unit {0}
IsOfStruct (leaf Null) = Unit {0}
IsOfStruct (mapping es) = Unit {0}
IsOfStruct _ = ⊥

of_part : (short : Bool) (node : Tree) → part_struct short node ≡ Some k.Fields → IsOfStruct node
of_part short (leaf NoValue) e = tt
of_part short (leaf Null) e = tt
of_part short (leaf (Text b m)) e = absurd cc
of_part true (sequence xs) e = absurd cc
of_part false (sequence xs) e = absurd cc
of_part short (mapping es) e = tt
of_part short uninitialized e = absurd cc

pub of_struct : (q : Part) (short : Bool) (node : Tree) → is_tried_part q ≡ false → option_and_then (kind_of_struct (is_whole q) short) (node_at_part q node) ≡ Some k.Fields → IsOfStruct node
of_struct p.Value short node t e = of_part short node e
of_struct p.Held short node t e = of_part short node e
of_struct p.NoValue short node t e = of_part short node e
of_struct p.Key short node t e = absurd cc
of_struct p.Whole short node t e = absurd cc
of_struct p.Nothing short node t e = absurd cc

pub pairs_of_struct : (t : Tree) → IsOfStruct t → pairs_in t ≡ entry_list (entries_in t)
pairs_of_struct (leaf NoValue) h = refl
pairs_of_struct (leaf Null) h = refl
pairs_of_struct (leaf (Text b m)) h = absurd h
pairs_of_struct (sequence xs) h = absurd h
pairs_of_struct (mapping es) h = refl
pairs_of_struct uninitialized h = absurd h

struct_part : (allowed : Entries → Bool) (names : Entries → Option (List d.Named)) (places : Items → Option (List d.Named)) (ms : List d.Named) (node : Tree) → IsOfStruct node → names (entries_in node) ≡ Some ms
    → allowed (entries_in node) ≡ true → struct_members allowed names places node ≡ Some ms
unfolding struct_members
struct_part allowed names places ms (leaf NoValue) of got ok = got
struct_part allowed names places ms (leaf Null) of got ok = got
struct_part allowed names places ms (leaf (Text b m)) of got ok = absurd of
struct_part allowed names places ms (sequence xs) of got ok = absurd of
struct_part allowed names places ms (mapping es) of got ok = ap (option_and_then (λ x. cond (allowed es) (Some x) None)) got ∙ ap (λ b. cond b (Some ms) None) ok
struct_part allowed names places ms uninitialized of got ok = absurd of

pub struct_here : (allowed : Entries → Bool) (names : Entries → Option (List d.Named)) (places : Items → Option (List d.Named)) (ms : List d.Named) (q : Part) (node top : Tree) (at : ℕ)
    → (q ≡ p.NoValue → node ≡ leaf Null) → is_tried_part q ≡ false → is_some (node_at_part q node) ≡ true → IsOfStruct node → names (entries_in node) ≡ Some ms → allowed (entries_in node) ≡ true
    → struct_members allowed names places (part_tree q node top at) ≡ Some ms
unfolding struct_members
struct_here allowed names places ms p.Value node top at null t some of got ok = struct_part allowed names places ms node of got ok
struct_here allowed names places ms p.Held node top at null t some of got ok = struct_part allowed names places ms node of got ok
struct_here allowed names places ms p.NoValue node top at null t some of got ok = ap (λ t. names (entries_in t)) (sym (null refl)) ∙ got
struct_here allowed names places ms p.Key node top at null t some of got ok = absurd cc
struct_here allowed names places ms p.Whole node top at null t some of got ok = absurd cc
struct_here allowed names places ms p.Nothing node top at null t some of got ok = absurd cc

pub some_node : (q : Part) (node : Tree) (short : Bool) → option_and_then (kind_of_struct (is_whole q) short) (node_at_part q node) ≡ Some k.Fields → is_some (node_at_part q node) ≡ true
some_node p.Value node short e = refl
some_node p.Held node short e = refl
some_node p.NoValue node short e = refl
some_node p.Key node short e = absurd cc
some_node p.Whole node short e = refl
some_node p.Nothing node short e = absurd cc

-- the entries of the innermost map from here on: what was read of each field, and that their keys are allowed
abbrev pub FieldsRead : Bool → s.UnknownKeys → s.Fields → Entries → List (ℕ × d.Data) → Type 0
FieldsRead rd unknown fs es ms =
    ((j : ℕ) (f : s.Field) → field_at fs j ≡ Some f → AllRead (reads rd f.1) (found f.0 es) (read_of j ms)) × (keys_are_text es ≡ true) × ((keys_are_names fs es || s.are_ignored unknown) ≡ true)

pub no_fields_read : (rd : Bool) (unknown : s.UnknownKeys) (fs : s.Fields) (es : Entries) → es ≡ no_entries → FieldsRead rd unknown fs es []
no_fields_read rd unknown fs es h = subst (λ (x : Entries). FieldsRead rd unknown fs x []) (sym h) ((λ j f e. tt), refl, refl)

pub utf8_more : (b c : Bool) → b ≡ true → c ≡ true → (b && c) ≡ true
utf8_more true c h g = g
utf8_more false c h g = absurd cc

pub names_more : (b c i : Bool) → b ≡ true → (c || i) ≡ true → ((b && c) || i) ≡ true
names_more true c i h g = g
names_more false c i h g = absurd cc

pub ignores : (b i : Bool) → i ≡ true → (b || i) ≡ true
ignores true i h = refl
ignores false i h = h

module _ (rd : Bool) (unknown : s.UnknownKeys) (names : List Name) (fs : s.Fields) (named : AreNamed names fs) (differ : s.field_names_differ fs ≡ true) (es : Entries) (n at : ℕ) (u : Tree) (o : Option (ParsedSegment × Tree)) (is : slice_get (entry_list es) n ≡ o)
    (looks : LooksUp (key_tree o) names at) (value : option_map (λ e. e.1) o ≡ Some u) (ms : List (ℕ × d.Data)) (rest : FieldsRead rd unknown fs (after (suc n) es) ms) where
  pub field_more : (g : s.Field) (x : d.Data) → field_at fs at ≡ Some g → reads rd g.1 u ≡ Some x → FieldsRead rd unknown fs (after n es) ((at, x) ∷ ms)
  field_more g x here got = go o is looks value where
    go : (o : Option (ParsedSegment × Tree)) → slice_get (entry_list es) n ≡ o → LooksUp (key_tree o) names at → option_map (λ e. e.1) o ≡ Some u → FieldsRead rd unknown fs (after n es) ((at, x) ∷ ms)
    go None is looks value = absurd cc
    go (Some e) is looks value = subst (λ (y : Entries). FieldsRead rd unknown fs y ((at, x) ∷ ms)) (sym (after_some n es e is)) (
      (λ j f h. step_read (reads rd f.1) (bytes_eq (segment_text e.0.segment) f.0) (at == j) e.1 x (found f.0 (after (suc n) es)) (read_of j ms)
          (is_found names fs named differ (segment_text e.0.segment) at (looked_up names at e looks).0 g here j f h)
          (λ same. let f_is : g ≡ f = same_Some _ _ (sym here ∙ ap (field_at fs) (same_index at j same) ∙ h) in
          ap (reads rd f.1) (same_Some _ _ value) ∙ ap (λ (y : s.Field). reads rd y.1 u) (sym f_is) ∙ got)
          (rest.0 j f h)),
      utf8_more _ _ (looked_up names at e looks).1 rest.1,
      names_more _ _ _ (is_field names fs named differ (segment_text e.0.segment) at (looked_up names at e looks).0 g here) rest.2,
    )

  pub other_more : s.are_ignored unknown ≡ true → length names ≤ at → FieldsRead rd unknown fs (after n es) ms
  other_more ignored past = go o is looks value where
    go : (o : Option (ParsedSegment × Tree)) → slice_get (entry_list es) n ≡ o → LooksUp (key_tree o) names at → option_map (λ e. e.1) o ≡ Some u → FieldsRead rd unknown fs (after n es) ms
    go None is looks value = absurd cc
    go (Some e) is looks value = subst (λ (y : Entries). FieldsRead rd unknown fs y ms) (sym (after_some n es e is)) (
      (λ j f h. skip_read (reads rd f.1) (bytes_eq (segment_text e.0.segment) f.0) e.1 (found f.0 (after (suc n) es)) (read_of j ms)
          (not_found names fs named differ (segment_text e.0.segment) at (looked_up names at e looks).0 past j f h)
          (rest.0 j f h)),
      utf8_more _ _ (looked_up names at e looks).1 rest.1,
      ignores _ _ ignored,
    )

-- the same of the map that a format is in
abbrev pub OfMap : TreeFormat → Entries → Type 0
OfMap f es = pairs_in (tree_of f.top.now) ≡ entry_list es

pub of_map_after : (old read : TreeFormat) (es : Entries) → AfterItem old read → OfMap old es → OfMap read es
of_map_after old read es a h = ap (λ (v : Bor ParsedValue). pairs_in (tree_of v.now)) a.top ∙ h

-- the entry that is due
abbrev pub entry_due : TreeFormat → Option (ParsedSegment × Tree)
entry_due f = slice_get (pairs_in (tree_of f.top.now)) (count_of f)

pub due : (old : TreeFormat) (es : Entries) → OfMap old es → slice_get (entry_list es) (count_of old) ≡ entry_due old
due old es h = ap (λ xs. slice_get xs (count_of old)) (sym h)

pub none_open : (a : Option Frame) → a ≡ None → IsSome a → ⊥
none_open None h g = absurd cc
none_open (Some a) h g = absurd cc

pub no_entry_due : (old : TreeFormat) → IsSome old.frame → HasNoEntry old → entry_due old ≡ None
no_entry_due old opened (inl none) = absurd (none_open old.frame none opened)
no_entry_due old opened (inr none) = none

pub rest_fields : (rd : Bool) (unknown : s.UnknownKeys) (fs : s.Fields) (old read : TreeFormat) (es : Entries) (ms : List (ℕ × d.Data)) → AfterItem old read → FieldsRead rd unknown fs (after (count_of read) es) ms → FieldsRead rd unknown fs (after (suc (count_of old)) es) ms
rest_fields rd unknown fs old read es ms a h = let one : count_of old + 1 ≡ suc (count_of old) = omega arith in subst (λ m. FieldsRead rd unknown fs (after m es) ms) (a.count ∙ one) h

pub struct_fields : (rd : Bool) (unknown : s.UnknownKeys) (fs : s.Fields) (es : Entries) (ms : List (ℕ × d.Data)) (ns : List d.Named) → FieldsRead rd unknown fs es ms → collected 0 fs ms ≡ Some ns → reads_names rd fs es ≡ Some ns
struct_fields rd unknown fs es ms ns h all = fields_read rd 0 fs es ms (λ j f e. let z : j ≡ 0 + j = omega arith in subst (λ m. AllRead (reads rd f.1) (found f.0 es) (read_of m ms)) z (h.0 j f e)) ∙ all
