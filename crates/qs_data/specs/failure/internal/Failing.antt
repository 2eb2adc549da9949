-- The failure of a node itself, and of what it is a part of.
use Rattle.std.specs.Prelude.{◌≡◌, ⊤, ◌⊎◌, ℕ, Bool, true, false, List, [], ◌∷◌, drop, Result, Ok, Err, Option, Some, None}
use Rattle.qs_spec.specs.Leaf.Leaf.{Text}
use Rattle.qs_spec.specs.Node.{found}
use Rattle.qs_spec.specs.Segment as segments
use Rattle.qs_spec.specs.Shape.{Shape, Fields, UnknownKeys, VariantKind, is_option}
use Rattle.qs_spec.specs.Tree.{Tree, Entries}
use Rattle.qs_spec.specs.Tree.Tree.{leaf, mapping, uninitialized}
use Rattle.qs_data.specs.declared.failure.failure.Failure.{Failure}
use Rattle.qs_data.specs.declared.failure.failure.Failure.TheVariants.{Unread, OutOfMemory}
use Rattle.qs_data.specs.declared.failure.mismatch.Mismatch.{Mismatch}
use Rattle.qs_data.specs.declared.failure.mismatch.Problem.{Problem}
use Rattle.qs_data.specs.declared.failure.expected.Expected.{Expected}
use Rattle.qs_data.specs.declared.read.error.ReadError.{ReadError}
use Rattle.qs_data.specs.declared.read.error.ReadError.TheVariants as r
use Rattle.qs_data.specs.failure.Expected.{Expects}
use Rattle.qs_data.specs.failure.Fails.{error_in}
use Rattle.qs_data.specs.failure.Mismatch.{IsMismatch, IsProblem, Says, path_of}
use Rattle.qs_data.specs.failure.Own.{IsOfKeys}
use Rattle.qs_data.specs.failure.Parts.{IsFieldOf, IsHeld, IsNamed}
use Rattle.qs_data.specs.read.Items.{first_item}
use Rattle.qs_data.specs.read.internal.Frugal.{RunsOutOnlyToReject}

-- memory runs out only if there is nothing to return
abbrev pub FailsFrugally : {X Y : Type 0} → Result X Failure → Option Y → Type 0
FailsFrugally (Ok x) r = ⊤
FailsFrugally (Err f) r = RunsOutOnlyToReject (error_in f) r

-- the node may name a variant: it is a text or a map
abbrev pub names : Tree → Bool
names (leaf (Text bytes escaped)) = true
names (mapping es) = true
names _ = false

-- the node is a text
abbrev pub is_text_leaf : Tree → Bool
is_text_leaf (leaf (Text bytes escaped)) = true
is_text_leaf _ = false

-- the node is this text
abbrev pub IsTextOf : List ℕ → Tree → Type 0
IsTextOf text (leaf (Text bytes escaped)) = bytes ≡ text
IsTextOf text _ = ⊥

-- the error isn't a failed allocation
abbrev pub IsNotMemory : ReadError → Type 0
IsNotMemory (r.Custom message) = ⊤
IsNotMemory (r.Utf8 cause) = ⊤
IsNotMemory r.OutOfMemory = ⊥

-- this error, and it isn't a failed allocation
abbrev pub IsOf : ReadError → ReadError → Type 0
IsOf error kept = (kept ≡ error) × IsNotMemory error

-- the failure of a node itself with this problem
abbrev pub IsWith : ReadError → Problem → Failure → Type 0
IsWith error problem (Unread b) = IsOf error b.value.error × (path_of b.value.mismatch ≡ []) × (b.value.mismatch.problem ≡ problem)
IsWith error problem OutOfMemory = ⊤

-- the failure of a node itself: the unexpected key, or else what is found
abbrev pub SaysOf : Option segments.Segment → Expected → Tree → ReadError → Failure → Type 0
SaysOf unexpected expected n error (Unread b) =
    IsOf error b.value.error × (path_of b.value.mismatch ≡ []) × Says unexpected (λ e. e ≡ expected) n b.value.mismatch.problem
SaysOf unexpected expected n error OutOfMemory = ⊤

-- the same, for a shape
abbrev pub IsHere : Shape → Tree → ReadError → Failure → Type 0
IsHere s n error (Unread b) = IsOf error b.value.error × (path_of b.value.mismatch ≡ []) × IsProblem b.value.mismatch.problem s n
IsHere s n error OutOfMemory = ⊤

-- the failure of a map itself, with this unexpected key
abbrev pub SaysKey : segments.Segment → Shape → ReadError → Failure → Type 0
SaysKey key s error (Unread b) = IsOf error b.value.error × (path_of b.value.mismatch ≡ []) × Says (Some key) (Expects s) uninitialized b.value.mismatch.problem
SaysKey key s error OutOfMemory = ⊤

-- the failure of a part with one more segment in front of its path, or no memory for it
abbrev pub IsUnder : segments.Segment → Failure → Failure → Type 0
IsUnder key f OutOfMemory = ⊤
IsUnder key (Unread b) (Unread d) =
    (d.value.error ≡ b.value.error) × (path_of d.value.mismatch ≡ key ∷ path_of b.value.mismatch) × (d.value.mismatch.problem ≡ b.value.mismatch.problem)
IsUnder key OutOfMemory (Unread d) = ⊥

-- a mismatch below one of these parts
pub record IsBelow (reject_duplicates : Bool) (IsPart : segments.Segment → Shape → Tree → Type 0) (m : Mismatch) : Type 0 where
  pub key : segments.Segment
  pub part : Shape
  pub node : Tree
  pub inner : Mismatch
  pub is_part : IsPart key part node
  pub path : path_of m ≡ key ∷ path_of inner
  pub problem : m.problem ≡ inner.problem
  pub below : IsMismatch reject_duplicates part node inner

abbrev pub FailsIn : Bool → (segments.Segment → Shape → Tree → Type 0) → Failure → Type 0
FailsIn reject_duplicates IsPart (Unread b) = IsBelow reject_duplicates IsPart b.value.mismatch
FailsIn reject_duplicates IsPart OutOfMemory = ⊤

-- the fault of the keys themselves
abbrev pub IsKeysOwn : UnknownKeys → Fields → Entries → Type 0 → Mismatch → Type 0
IsKeysOwn u fs es fault m = fault × (path_of m ≡ []) × IsProblem m.problem (Shape.struct u fs) (mapping es)

-- two keys have the name
pub record IsTwice (name : List ℕ) (es : Entries) : Type 0 where
  pub one : Tree
  pub other : Tree
  pub rest : List Tree
  pub is : found name es ≡ one ∷ other ∷ rest

-- a field of this name isn't read, or two keys have its name
abbrev pub FailsField : Bool → UnknownKeys → Fields → (name : List ℕ) → Shape → (optional : Bool) → Entries → Failure → Type 0
FailsField reject_duplicates u fs name s optional es (Unread b) =
    IsBelow reject_duplicates (IsNamed name s optional es) b.value.mismatch ⊎ IsKeysOwn u fs es (IsTwice name es) b.value.mismatch
FailsField reject_duplicates u fs name s optional es OutOfMemory = ⊤

-- a required field of this name is missing
pub data IsMissing (name : List ℕ) (s : Shape) (optional : Bool) : segments.Segment → Shape → Tree → Type 0 where
  missing : optional ≡ false → is_option s ≡ false → IsMissing name s optional (segments.Segment.Str name) s uninitialized

-- a field of this shape, by its index; without an item there it is missing, if it is required
pub data IsPlacedAt (i : ℕ) (s : Shape) (optional : Bool) (xs : List (Option Tree)) : segments.Segment → Shape → Tree → Type 0 where
  placed_field : {n : Tree} → first_item (drop i xs) ≡ Some (Some n) → IsPlacedAt i s optional xs (segments.Segment.Int i) s n
  field_beyond : optional ≡ false → first_item (drop i xs) ≡ Some None → IsPlacedAt i s optional xs (segments.Segment.Int i) s uninitialized

-- a field isn't read, or the fault is of the keys themselves
abbrev pub FailsFields : Bool → UnknownKeys → Fields → Entries → Failure → Type 0
FailsFields reject_duplicates u fs es (Unread b) = IsBelow reject_duplicates (IsFieldOf fs es) b.value.mismatch ⊎ IsKeysOwn u fs es (IsOfKeys u fs es) b.value.mismatch
FailsFields reject_duplicates u fs es OutOfMemory = ⊤

-- what a variant holds isn't read
pub record IsHeldMismatch (reject_duplicates : Bool) (kind : VariantKind) (n : Tree) (m : Mismatch) : Type 0 where
  pub part : Shape
  pub node : Tree
  pub is_held : IsHeld kind n part node
  pub below : IsMismatch reject_duplicates part node m

abbrev pub FailsHeld : Bool → VariantKind → Tree → Failure → Type 0
FailsHeld reject_duplicates kind n (Unread b) = IsHeldMismatch reject_duplicates kind n b.value.mismatch
FailsHeld reject_duplicates kind n OutOfMemory = ⊤
