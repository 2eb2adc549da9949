-- The steps by which serde's impls and derives read a value, and what they gave. Each constructor is a shape, with what the public clauses of
-- its steps say.
use Rattle.std.specs.Prelude.{◌≡◌, ◌⊎◌, ◌↔◌, ◌<◌, ◌≤◌, ◌==◌, ◌^◌, ◌-◌, ◌≤ℤ◌, ⊤, ℤ, pos, neg_ℤ, ℕ, zero, suc, Bool, true, false, cond, List, [], ◌∷◌, length, slice_get, Option, Some, None, option_and_then, IsSome}
use Rattle.qs_spec.specs.Leaf.Leaf.{NoValue, Null}
use Rattle.qs_spec.specs.Tree.Tree.{leaf}
use Rattle.qs_spec.specs.internal.ReadFunction.{is_unit_kind, with_field}
use Rattle.serde.specs.Spelling.{spelled}
use Rattle.serde.specs.declared.name.Name.{Name}
use Rattle.serde.specs.declared.format.Kind.TheVariants as kind
use Rattle.qs_serde.specs.declared.reading.frame.FrameKind.TheVariants as k
use Rattle.qs_spec.specs.Data as d
use Rattle.qs_spec.specs.Shape as s
use Rattle.qs_tree.specs.tree.Views.{tree_of}
use Rattle.serde.specs.Event as e
use Rattle.qs_serde.specs.Places.{count_of, is_tried_part, opens, tree_at, value_part}
use Rattle.qs_serde.specs.Steps.{Begins, BeginsMap, Comes, EntryComes, EntryIs, FieldComes, HasNoEntry, HasNoItem, HasNoName, IsPlain, Leaves, Looks, LooksInside, Picks, Reads, Takes, field_of, next_kind, next_struct}
use Rattle.qs_serde.specs.Tries.{picked_part, settled}
use Rattle.qs_serde.specs.declared.reading.node.Node.{Node}
use Rattle.qs_serde.specs.declared.reading.node.Part.TheVariants as p
use Rattle.qs_serde.specs.declared.reading.format.TreeFormat.{TreeFormat}

-- A value may be read: no value is next only in place of an empty one, nothing is open around what is not open, and no variant of an untagged enum
-- is tried.
pub record IsReady (f : TreeFormat) : Type 0 where
  pub part : f.part ≡ p.NoValue → tree_of f.node.now ≡ leaf Null
  pub whole : is_tried_part f.part ≡ false
  pub tried : f.is_tried ≡ false
  pub outer : IsSome f.frame ⊎ (f.around.items ≡ [])

-- The tree is read as it is, and for no variant of an untagged enum.
abbrev pub IsDirect : TreeFormat → Type 0
IsDirect f = IsPlain f × (f.is_tried ≡ false)

-- A value was read: the open lists and maps are those before it, gone over as far.
pub record IsLevel (old new : TreeFormat) : Type 0 where
  pub opened : opens new ≡ opens old
  pub open_as : IsSome new.frame ↔ IsSome old.frame
  pub reader : new.reader ≡ old.reader
  pub direct : IsDirect old → IsDirect new

-- a name that a derive requests is this one, without aliases
abbrev pub IsOnly : Name → List ℕ → Type 0
IsOnly n name = (n.skipped ≡ false) × (n.aliases.now ≡ []) × (spelled n.case n.kind n.name.now ≡ name)

-- those of a struct are those of the fields; of an enum, of the variants; of a map's keys, of the unit variants
abbrev pub AreNamed : List Name → s.Fields → Type 0
AreNamed [] s.no_fields = ⊤
AreNamed (n ∷ ns) (s.one_field name a optional fs) = IsOnly n name × AreNamed ns fs
AreNamed _ _ = ⊥

abbrev pub AreVariants : List Name → s.Variants → Type 0
AreVariants [] s.no_variants = ⊤
AreVariants (n ∷ ns) (s.one_variant name held vs) = IsOnly n name × AreVariants ns vs
AreVariants _ _ = ⊥

abbrev pub AreKeys : List Name → List (List ℕ) → Type 0
AreKeys [] [] = ⊤
AreKeys (n ∷ ns) (key ∷ keys) = IsOnly n key × AreKeys ns keys
AreKeys _ _ = ⊥

abbrev pub field_at : s.Fields → ℕ → Option s.Field
field_at s.no_fields k = None
field_at (s.one_field name a optional fs) zero = Some (name, a, optional)
field_at (s.one_field name a optional fs) (suc k) = field_at fs k

abbrev pub variant_at : s.Variants → ℕ → Option s.Variant
variant_at s.no_variants k = None
variant_at (s.one_variant name held vs) zero = Some (name, held)
variant_at (s.one_variant name held vs) (suc k) = variant_at vs k

-- what was read of the field at an index; then its value, or what it has if it is missing; then all fields
abbrev pub read_of : ℕ → List (ℕ × d.Data) → List d.Data
read_of k [] = []
read_of k (m ∷ ms) = cond (m.0 == k) (m.1 ∷ read_of k ms) (read_of k ms)

abbrev pub slot : Bool → Bool → List d.Data → Option (Option d.Data)
slot optional is_opt [] = cond optional (Some None) (cond is_opt (Some (Some d.none)) None)
slot optional is_opt (x ∷ []) = Some (Some x)
slot optional is_opt (x ∷ y ∷ xs) = None

abbrev pub collected : ℕ → s.Fields → List (ℕ × d.Data) → Option (List d.Named)
collected k s.no_fields ms = Some []
collected k (s.one_field name a optional fs) ms = option_and_then (λ x. with_field name x (collected (suc k) fs ms)) (slot optional (s.is_option a) (read_of k ms))

-- the step by which a map's key is read, and what it gave
pub data KeyRun : s.KeyShape → TreeFormat → d.Data → TreeFormat → Type 0 where
  boolean_key : {old new : TreeFormat} {b : Bool} → Reads old (e.boolean b) new → KeyRun s.KeyShape.boolean old (d.boolean b) new
  unsigned_key : {old new : TreeFormat} {bits m : ℕ} → Reads old (e.unsigned m) new → m < 2 ^ bits → KeyRun (s.KeyShape.unsigned bits) old (d.unsigned m) new
  signed_key : {old new : TreeFormat} {bits : ℕ} {z : ℤ} → Reads old (e.signed z) new → neg_ℤ (pos (2 ^ (bits - 1))) ≤ℤ z → z ≤ℤ pos (2 ^ (bits - 1) - 1) → KeyRun (s.KeyShape.signed bits) old (d.signed z) new
  character_key : {old new : TreeFormat} {c : ℕ} → Reads old (e.character c) new → KeyRun s.KeyShape.character old (d.character c) new
  text_key : {old new : TreeFormat} {t : List ℕ} → Reads old (e.text t) new → KeyRun s.KeyShape.text old (d.text t) new
  variant_key : (names : List Name) (at : ℕ) {keys : List (List ℕ)} {old new : TreeFormat} {key : List ℕ} → Picks old false names at new → AreKeys names keys → slice_get keys at ≡ Some key → KeyRun (s.KeyShape.variants keys) old (d.unit_variant key) new

mutual
  pub data Run : s.Shape → TreeFormat → d.Data → TreeFormat → Type 0 where
    unit_run : {old new : TreeFormat} → ¬ (old.part ≡ p.Held) → Reads old e.nothing new → Run s.Shape.unit old d.unit new
    boolean_run : {old new : TreeFormat} {b : Bool} → Reads old (e.boolean b) new → Run s.Shape.boolean old (d.boolean b) new
    unsigned_run : {old new : TreeFormat} {bits m : ℕ} → Reads old (e.unsigned m) new → m < 2 ^ bits → Run (s.Shape.unsigned bits) old (d.unsigned m) new
    signed_run : {old new : TreeFormat} {bits : ℕ} {z : ℤ} → Reads old (e.signed z) new → neg_ℤ (pos (2 ^ (bits - 1))) ≤ℤ z → z ≤ℤ pos (2 ^ (bits - 1) - 1) → Run (s.Shape.signed bits) old (d.signed z) new
    character_run : {old new : TreeFormat} {c : ℕ} → Reads old (e.character c) new → Run s.Shape.character old (d.character c) new
    text_run : {old new : TreeFormat} {t : List ℕ} → Reads old (e.text t) new → Run s.Shape.text old (d.text t) new
    octets_run : {old new : TreeFormat} {t : List ℕ} → Reads old (e.octets t) new → Run s.Shape.bytes old (d.bytes t) new
    newtype_run : {a : s.Shape} {old new : TreeFormat} {x : d.Data} → Run a old x new → Run (s.Shape.newtype a) old (d.newtype x) new
    none_run : {a : s.Shape} {old new : TreeFormat} → tree_at old ≡ leaf NoValue → new ≡ old → Run (s.Shape.option a) old d.none new
    some_run : {a : s.Shape} {old looked new : TreeFormat} {x : d.Data} → LooksInside old looked → Run a looked x new → Run (s.Shape.option a) old (d.some x) new
    sequence_run : {a : s.Shape} {old first new : TreeFormat} {xs : List d.Data} → Reads old (e.seq_begins None) first → ItemsRun a first xs new → Run (s.Shape.sequence a) old (d.sequence (d.values_of xs)) new
    tuple_run : {parts : s.Shapes} {old first new : TreeFormat} {xs : List d.Data} → Reads old (e.seq_begins None) first → PartsRun parts first xs new → Run (s.Shape.tuple parts) old (d.tuple (d.values_of xs)) new
    mapping_run : {key : s.KeyShape} {a : s.Shape} {old first new : TreeFormat} {ps : List (d.Data × d.Data)} → BeginsMap old first → PairsRun key a first ps new → Run (s.Shape.mapping key a) old (d.mapping (d.pairs_of ps)) new
    struct_run : {unknown : s.UnknownKeys} {names : List Name} {fs : s.Fields} {old first new : TreeFormat} {ms : List (ℕ × d.Data)} {named : List d.Named}
        → Begins old k.Fields first → next_struct old ≡ Some k.Fields → AreNamed names fs → s.field_names_differ fs ≡ true → MembersRun unknown names fs first ms new
        → collected 0 fs ms ≡ Some named → Run (s.Shape.struct unknown fs) old (d.struct (d.members_of named)) new
    places_run : {unknown : s.UnknownKeys} {names : List Name} {fs : s.Fields} {old first new : TreeFormat} {named : List d.Named}
        → Begins old k.Places first → next_struct old ≡ Some k.Places → AreNamed names fs → PlacesRun names fs first named new → Run (s.Shape.struct unknown fs) old (d.struct (d.members_of named)) new
    name_run : (names : List Name) (at : ℕ) {vs : s.Variants} {old looked new : TreeFormat} {v : s.Variant}
        → Looks old looked → next_kind old ≡ Some kind.Str → Picks looked false names at new → AreVariants names vs → variant_at vs at ≡ Some v → is_unit_kind v.1 ≡ true → Run (s.Shape.enumeration vs) old (d.unit_variant v.0) new
    variant_run : {vs : s.Variants} {names : List Name} {old looked first come read new : TreeFormat} {at : ℕ} {v : s.Variant} {x : d.Data}
        → Looks old looked → ¬ (next_kind old ≡ Some kind.Str) → BeginsMap looked first → EntryIs 0 names at (picked_part names first) (settled names first) come → AreVariants names vs → variant_at vs at ≡ Some v
        → ContentRun v.1 v.0 come x read → Leaves read new → Run (s.Shape.enumeration vs) old x new

  -- what a variant holds is read
  pub data ContentRun : s.VariantKind → List ℕ → TreeFormat → d.Data → TreeFormat → Type 0 where
    unit_content : {name : List ℕ} {old new : TreeFormat} → Reads old e.nothing new → ContentRun s.unit_kind name old (d.unit_variant name) new
    newtype_content : {a : s.Shape} {name : List ℕ} {old new : TreeFormat} {x : d.Data} → Run a old x new → ContentRun (s.newtype_kind a) name old (d.newtype_variant name x) new
    tuple_content : {parts : s.Shapes} {name : List ℕ} {old new : TreeFormat} {xs : d.Values} → Run (s.Shape.tuple parts) old (d.tuple xs) new → ContentRun (s.tuple_kind parts) name old (d.tuple_variant name xs) new
    struct_content : {unknown : s.UnknownKeys} {fs : s.Fields} {name : List ℕ} {old new : TreeFormat} {ms : d.Members}
        → Run (s.Shape.struct unknown fs) old (d.struct ms) new → ContentRun (s.struct_kind unknown fs) name old (d.struct_variant name ms) new

  -- an item comes for each field, and the further ones are left
  pub data PlacesRun : List Name → s.Fields → TreeFormat → List d.Named → TreeFormat → Type 0 where
    no_place : {names : List Name} {fs : s.Fields} {old new : TreeFormat} → HasNoName names (field_of old) → Leaves old new → PlacesRun names fs old [] new
    one_place : {names : List Name} {fs : s.Fields} {old come read new : TreeFormat} {at : ℕ} {f : s.Field} {x : d.Data} {rest : List d.Named}
        → FieldComes names at old come → field_at fs at ≡ Some f → Run f.1 come x read → PlacesRun names fs read rest new → PlacesRun names fs old ((f.0, x) ∷ rest) new

  -- each item comes and is read, until none is left
  pub data ItemsRun : s.Shape → TreeFormat → List d.Data → TreeFormat → Type 0 where
    no_item : {a : s.Shape} {old new : TreeFormat} → HasNoItem old → Leaves old new → ItemsRun a old [] new
    one_item : {a : s.Shape} {old come read new : TreeFormat} {x : d.Data} {xs : List d.Data} → Comes old come → Run a come x read → ItemsRun a read xs new → ItemsRun a old (x ∷ xs) new

  -- an item comes for each part, and the further ones are left
  pub data PartsRun : s.Shapes → TreeFormat → List d.Data → TreeFormat → Type 0 where
    no_part : {old new : TreeFormat} → Leaves old new → PartsRun s.no_shapes old [] new
    one_part : {a : s.Shape} {parts : s.Shapes} {old come read new : TreeFormat} {x : d.Data} {xs : List d.Data} → Comes old come → Run a come x read → PartsRun parts read xs new → PartsRun (s.one_shape a parts) old (x ∷ xs) new

  -- each entry of a map comes, its key is read and then its value, until none is left
  pub data PairsRun : s.KeyShape → s.Shape → TreeFormat → List (d.Data × d.Data) → TreeFormat → Type 0 where
    no_pair : {key : s.KeyShape} {a : s.Shape} {old new : TreeFormat} → HasNoEntry old → Leaves old new → PairsRun key a old [] new
    one_pair : {key : s.KeyShape} {a : s.Shape} {old come next read new : TreeFormat} {node : Node} {k x : d.Data} {ps : List (d.Data × d.Data)}
        → EntryComes (count_of old) node old come → come.part ≡ p.Key → KeyRun key come k next → Run a next x read → PairsRun key a read ps new → PairsRun key a old ((k, x) ∷ ps) new

  -- Each entry comes: a field is read, and what is under another key is passed over, if it may be, until none is left.
  pub data MembersRun : s.UnknownKeys → List Name → s.Fields → TreeFormat → List (ℕ × d.Data) → TreeFormat → Type 0 where
    no_member : {unknown : s.UnknownKeys} {names : List Name} {fs : s.Fields} {old new : TreeFormat} → HasNoEntry old → Leaves old new → MembersRun unknown names fs old [] new
    one_member : {unknown : s.UnknownKeys} {names : List Name} {fs : s.Fields} {old come read new : TreeFormat} {at : ℕ} {f : s.Field} {x : d.Data} {ms : List (ℕ × d.Data)}
        → EntryIs (count_of old) names at (value_part old.is_tried) old come → field_at fs at ≡ Some f → Run f.1 come x read → MembersRun unknown names fs read ms new
        → MembersRun unknown names fs old ((at, x) ∷ ms) new
    other_member : {unknown : s.UnknownKeys} {names : List Name} {fs : s.Fields} {old come read new : TreeFormat} {at : ℕ} {ms : List (ℕ × d.Data)}
        → s.are_ignored unknown ≡ true → EntryIs (count_of old) names at (value_part old.is_tried) old come → length names ≤ at → Takes come read → MembersRun unknown names fs read ms new → MembersRun unknown names fs old ms new
