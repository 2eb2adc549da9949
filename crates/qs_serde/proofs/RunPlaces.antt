-- The fields of a struct, as the items of a list are read.
use Rattle.std.proofs.Common.{◌≡◌, ◌⊎◌, inl, inr, ℕ, zero, suc, ◌+◌, ◌<◌, ◌≤◌, Bool, true, false, HoldsAt, List, [], ◌∷◌, length, drop, Option, Some, refl, sym, ap, subst, ◌∙◌, arith}
use Rattle.std.specs.Option.{option_map, option_and_then}
use Rattle.std.proofs.lemmas.Option.{same_Some}
use Rattle.serde.specs.declared.name.Name.{Name}
use Rattle.qs_data.proofs.Common.{false≢true}
use Rattle.qs_spec.specs.Data as d
use Rattle.qs_spec.specs.Shape as s
use Rattle.qs_spec.specs.Leaf.Leaf.{NoValue, Null, Text}
use Rattle.qs_spec.specs.Node.{sequence_items}
use Rattle.qs_spec.specs.Tree.{Tree, Entries, Items}
use Rattle.qs_spec.specs.Tree.Items.{no_items, item}
use Rattle.qs_spec.specs.Tree.Tree.{leaf, sequence, mapping, uninitialized}
use Rattle.qs_spec.specs.internal.ReadFunction.{reads, reads_places, struct_members, with_field}
use Rattle.qs_serde.specs.Nodes.{listed}
use Rattle.qs_serde.specs.Places.{is_tried_part, part_tree}
use Rattle.qs_serde.specs.Runs.{AreNamed, field_at}
use Rattle.qs_serde.specs.Steps.{HasNoName, IsNextName, is_whole, kind_of_struct, node_at_part, part_struct}
use Rattle.qs_serde.specs.declared.reading.frame.FrameKind.TheVariants as k
use Rattle.qs_serde.specs.declared.reading.node.Part.{Part}
use Rattle.qs_serde.specs.declared.reading.node.Part.TheVariants as p
use Rattle.qs_serde.proofs.RunFields.{named_at}

-- the fields from an index on, and the items
abbrev pub fields_from : ℕ → s.Fields → s.Fields
fields_from zero fs = fs
fields_from (suc j) s.no_fields = s.no_fields
fields_from (suc j) (s.one_field name a optional fs) = fields_from j fs

abbrev pub items_from : ℕ → Items → Items
items_from zero xs = xs
items_from (suc n) no_items = no_items
items_from (suc n) (item t xs) = items_from n xs

pub field_first : (j : ℕ) (fs : s.Fields) (f : s.Field) → field_at fs j ≡ Some f → fields_from j fs ≡ s.one_field f.0 f.1 f.2 (fields_from (suc j) fs)
field_first zero s.no_fields f h = absurd cc
field_first zero (s.one_field name a o fs) f h = ap (λ (g : s.Field). s.one_field g.0 g.1 g.2 fs) (same_Some _ _ h)
field_first (suc j) s.no_fields f h = absurd cc
field_first (suc j) (s.one_field name a o fs) f h = field_first j fs f h

pub item_first : (n : ℕ) (xs : Items) (t : Tree) (rest : List (Option Tree)) → drop n (sequence_items xs) ≡ Some t ∷ rest → items_from n xs ≡ item t (items_from (n + 1) xs)
item_first zero no_items t rest h = absurd cc
item_first zero (item u xs) t rest h = let same : u ≡ t = cc in ap (λ v. item v xs) same
item_first (suc n) no_items t rest h = absurd cc
item_first (suc n) (item u xs) t rest h = let one : suc n + 1 ≡ suc (n + 1) = omega arith in item_first n xs t rest h ∙ ap (λ m. item t (items_from m (item u xs))) (sym one)

-- the names of fields aren't skipped
not_skipped : (names : List Name) (fs : s.Fields) (j : ℕ) → AreNamed names fs → j < length names → HoldsAt (λ (n : Name). n.skipped ≡ true) names j → ⊥
not_skipped [] s.no_fields j named lt h = omega (lt, arith)
not_skipped [] (s.one_field name a o fs) j named lt h = absurd named
not_skipped (n ∷ ns) s.no_fields j named lt h = absurd named
not_skipped (n ∷ ns) (s.one_field name a o fs) zero named lt h = false≢true (sym named.0.0 ∙ h n)
not_skipped (n ∷ ns) (s.one_field name a o fs) (suc j) named lt h = let less : j < length ns = omega (lt, arith) in not_skipped ns fs j named.1 less h

pub same_place : (names : List Name) (fs : s.Fields) (from at : ℕ) (f : s.Field) → AreNamed names fs → IsNextName names from at → field_at fs at ≡ Some f → at ≡ from
same_place names fs from at f named next is =
    let lt : at < length names = (named_at names fs named at f is).0 in
    let after = next.after in
    elim (below from at after) [ inl same ↦ sym same | inr less ↦ absurd (let within : from < length names = omega (less, lt, arith) in not_skipped names fs from named within (next.first from (let same : from ≤ from = omega arith in same) less)) ]
  where
    below : (m n : ℕ) → m ≤ n → (m ≡ n) ⊎ (m < n)
    below zero zero h = inl refl
    below zero (suc n) h = inr (omega arith)
    below (suc m) zero h = absurd (let none : ⊥ = omega (h, arith) in none)
    below (suc m) (suc n) h = elim (below m n (omega (h, arith))) [ inl same ↦ inl (ap suc same) | inr less ↦ inr (omega (less, arith)) ]

pub no_more_fields : (names : List Name) (fs : s.Fields) (from : ℕ) → AreNamed names fs → HasNoName names from → fields_from from fs ≡ s.no_fields
no_more_fields [] s.no_fields zero named none = refl
no_more_fields [] s.no_fields (suc j) named none = refl
no_more_fields [] (s.one_field name a o fs) j named none = absurd named
no_more_fields (n ∷ ns) s.no_fields j named none = absurd named
no_more_fields (n ∷ ns) (s.one_field name a o fs) zero named none =
    let same : 0 ≤ 0 = omega arith in let lt : 0 < length (n ∷ ns) = omega arith in
    absurd (not_skipped (n ∷ ns) (s.one_field name a o fs) 0 named lt (none 0 same lt))
no_more_fields (n ∷ ns) (s.one_field name a o fs) (suc j) named none =
    no_more_fields ns fs j named.1 (λ i after lt. let a : suc j ≤ suc i = omega (after, arith) in let b : suc i < length (n ∷ ns) = omega (lt, arith) in none (suc i) a b)

-- the list of a struct
abbrev pub items_of : Tree → Items
items_of (sequence xs) = xs
items_of _ = no_items

abbrev pub IsListed : Tree → Type 0
IsListed (sequence xs) = Unit {0}
IsListed _ = ⊥

of_part : (short : Bool) (node : Tree) → part_struct short node ≡ Some k.Places → IsListed node
of_part short (leaf NoValue) e = absurd cc
of_part short (leaf Null) e = absurd cc
of_part short (leaf (Text b m)) e = absurd cc
of_part short (sequence xs) e = tt
of_part short (mapping es) e = absurd cc
of_part short uninitialized e = absurd cc

pub is_listed : (q : Part) (short : Bool) (node : Tree) → is_tried_part q ≡ false → option_and_then (kind_of_struct (is_whole q) short) (node_at_part q node) ≡ Some k.Places → IsListed node
is_listed p.Value short node t e = of_part short node e
is_listed p.Held short node t e = of_part short node e
is_listed p.NoValue short node t e = of_part short node e
is_listed p.Key short node t e = absurd cc
is_listed p.Whole short node t e = absurd cc
is_listed p.Nothing short node t e = absurd cc

pub listed_items : (node : Tree) → IsListed node → listed node ≡ sequence_items (items_of node)
listed_items (leaf NoValue) h = absurd h
listed_items (leaf Null) h = absurd h
listed_items (leaf (Text b m)) h = absurd h
listed_items (sequence xs) h = refl
listed_items (mapping es) h = absurd h
listed_items uninitialized h = absurd h

places_part : (allowed : Entries → Bool) (names : Entries → Option (List d.Named)) (places : Items → Option (List d.Named)) (node : Tree) → IsListed node → struct_members allowed names places node ≡ places (items_of node)
unfolding struct_members
places_part allowed names places (leaf NoValue) of = absurd of
places_part allowed names places (leaf Null) of = absurd of
places_part allowed names places (leaf (Text b m)) of = absurd of
places_part allowed names places (sequence xs) of = refl
places_part allowed names places (mapping es) of = absurd of
places_part allowed names places uninitialized of = absurd of

pub places_here : (allowed : Entries → Bool) (names : Entries → Option (List d.Named)) (places : Items → Option (List d.Named)) (q : Part) (short : Bool) (node top : Tree) (at : ℕ) → (q ≡ p.NoValue → node ≡ leaf Null) → is_tried_part q ≡ false
    → option_and_then (kind_of_struct (is_whole q) short) (node_at_part q node) ≡ Some k.Places → IsListed node → struct_members allowed names places (part_tree q node top at) ≡ places (items_of node)
places_here allowed names places p.Value short node top at null t e of = places_part allowed names places node of
places_here allowed names places p.Held short node top at null t e of = places_part allowed names places node of
places_here allowed names places p.NoValue short node top at null t e of = absurd (subst IsListed (null refl) of)
places_here allowed names places p.Key short node top at null t e of = absurd cc
places_here allowed names places p.Whole short node top at null t e of = absurd cc
places_here allowed names places p.Nothing short node top at null t e of = absurd cc

-- a field and the others
pub place_more : (rd : Bool) (fs : s.Fields) (f : s.Field) (t : Tree) (xs : Items) (x : d.Data) (rest : List d.Named) → reads rd f.1 t ≡ Some x → reads_places rd fs xs ≡ Some rest
    → reads_places rd (s.one_field f.0 f.1 f.2 fs) (item t xs) ≡ Some ((f.0, x) ∷ rest)
unfolding reads
place_more rd fs f t xs x rest got others =
    ap (λ o. option_and_then (λ v. with_field f.0 v (reads_places rd fs xs)) (option_map Some o)) got ∙ ap (λ o. with_field f.0 (Some x) o) others
