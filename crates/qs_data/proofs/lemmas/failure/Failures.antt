-- The failure of a part as the failure of the whole.
use Rattle.qs_data.proofs.Common.{◌≡◌, ◌∙◌, ℕ, Bool, true, false, List, [], ◌∷◌, Option, Some, None, refl, sym, ap, subst, Result, Ok, Err, IsErrAnd, ReadError, ReadRejects, ReadIsCustom, ReadIsFrugal, ReadRunsOutOnlyToReject, Rejects, Segment, Shape, Fields, KeyShape, Variants, Tree, Items, Entries, leaf, mapping, sequence, uninitialized, no_entries, items, error_of}
use Rattle.std.specs.Prelude.{IfErr}
use Rattle.qs_spec.specs.Leaf.Leaf.{NoValue, Null}
use Rattle.qs_spec.specs.Node.{IsFull, sequence_items}
use Rattle.qs_spec.specs.Shape.{Shapes, UnknownKeys}
use Rattle.qs_data.specs.declared.failure.failure.Failure.{Failure}
use Rattle.qs_data.specs.declared.failure.failure.Failure.TheVariants.{Unread, OutOfMemory}
use Rattle.qs_data.specs.declared.failure.mismatch.Mismatch.{Mismatch}
use Rattle.qs_data.specs.declared.read.error.ReadError.TheVariants as r
use Rattle.qs_data.specs.read.Entries.{node_entries}
use Rattle.qs_data.specs.read.Errors.{IsCustomOrOutOfMemory}
use Rattle.qs_data.specs.failure.Fails.{Fails, GivesOrFails, error_in}
use Rattle.qs_data.specs.failure.Mismatch.{IsMismatch, IsProblem}
use Rattle.qs_data.specs.failure.Own.{IsOwn}
use Rattle.qs_data.specs.failure.Parts.{IsItem, IsPlaced, IsTupleItem, IsValue, Leads}
use Rattle.qs_data.specs.failure.internal.Failing.{FailsFrugally, FailsIn, IsHere, IsNotMemory, IsUnder}
use Rattle.qs_data.specs.read.internal.Frugal.{RunsOutOnlyToReject}
use Rattle.qs_data.proofs.lemmas.failure.Unread.{own_unread}
use Rattle.qs_data.proofs.lemmas.read.Errors.{rejected}

-- the same result, of something equal
pub fails_as : {X Y : Type 0} (view : X → Y) (t u : Bool) (x : Result X Failure) (a b : Option Y) → GivesOrFails view t x a → a ≡ b → (t ≡ false → u ≡ false) → GivesOrFails view u x b
fails_as view t u (Ok x) a b h e f = sym e ∙ h
fails_as view t u (Err x) a b h e f = rejected t u (error_in x) a b h (λ n. sym e ∙ n) f

-- the failure of a part that is passed on, where the result of the whole follows from that of the part
pub fails_exit : {X Y Z : Type 0} (view : X → Y) (t u : Bool) (x : Result X Failure) (f : Failure) (a : Option Z) (b : Option Y)
    → IsErrAnd x (λ y. y ≡ f) → Rejects t (error_in f) a → (a ≡ None → b ≡ None) → (t ≡ false → u ≡ false) → GivesOrFails view u x b
fails_exit view t u (Ok x) f a b h g n m = absurd h
fails_exit view t u (Err y) f a b h g n m = subst (λ (z : Failure). Rejects u (error_in z) b) (sym h) (rejected t u (error_in f) a b g n m)

-- what is known of a failure that is passed on is known of the result
pub passes : {X : Type 0} (Q : Failure → Type 0) (x : Result X Failure) (f : Failure) → IsErrAnd x (λ y. y ≡ f) → Q f → IfErr x Q
passes Q (Ok x) f h q = absurd h
passes Q (Err g) f h q = subst Q (sym h) q

-- the failure of a node itself rejects what its error rejects
pub here_rejects : {Y : Type 0} (t : Bool) (s : Shape) (n : Tree) (e : ReadError) (f : Failure) (a : Option Y) → IsHere s n e f → ReadRejects t e a → Rejects t (error_in f) a
here_rejects t s n e (Unread b) a h g = subst (λ x. ReadRejects t x a) (sym h.0.0) g
here_rejects t s n e OutOfMemory a h g = tt

-- and the failure of what a part belongs to what the failure of the part rejects
pub under_rejects : {Y : Type 0} (t : Bool) (key : Segment) (f g : Failure) (a : Option Y) → IsUnder key f g → Rejects t (error_in f) a → Rejects t (error_in g) a
under_rejects t key f OutOfMemory a h g = tt
under_rejects t key (Unread b) (Unread d) a h g = subst (λ x. ReadRejects t x a) (sym h.0) g
under_rejects t key OutOfMemory (Unread d) a h g = absurd h

pub unread_by : {Y : Type 0} (t : Bool) (e : ReadError) (a : Option Y) → IsNotMemory e → ReadRejects t e a → a ≡ None
unread_by t (r.Custom m) a h g = g
unread_by t (r.Utf8 c) a h g = g.0
unread_by t r.OutOfMemory a h g = absurd h

-- memory runs out for the failure only if there is nothing to return
none_if : {Y : Type 0} (t : Bool) (e : ReadError) (a : Option Y) → ReadRejects t e a → ReadRunsOutOnlyToReject e a → a ≡ None
none_if t (r.Custom m) a g h = g
none_if t (r.Utf8 c) a g h = g.0
none_if t r.OutOfMemory a g h = h

pub here_frugal : {Y : Type 0} (t : Bool) (s : Shape) (n : Tree) (e : ReadError) (f : Failure) (a : Option Y) → IsHere s n e f → ReadRejects t e a → ReadRunsOutOnlyToReject e a → RunsOutOnlyToReject (error_in f) a
here_frugal t s n e (Unread b) a h g k = subst (λ x. ReadRunsOutOnlyToReject x a) (sym h.0.0) k
here_frugal t s n e OutOfMemory a h g k = none_if t e a g k

-- a node's own fault
pub here_fails : (rd : Bool) (s : Shape) (n : Tree) (e : ReadError) (f : Failure) → IsHere s n e f → IsOwn rd s n → Fails rd s n f
here_fails rd s n e (Unread b) h own = record {
  part = s;
  node = n;
  unread = own_unread rd s n own;
  own = own;
  problem = h.2;
  leads = subst (λ p. Leads p s n s n) (sym h.1) Leads.here;
}
here_fails rd s n e OutOfMemory h own = tt

-- the same, if it follows from the error
pub rejected_here : {Y : Type 0} (rd : Bool) (s : Shape) (n : Tree) (t : Bool) (e : ReadError) (a : Option Y) (f : Failure) → IsHere s n e f → ReadRejects t e a → (a ≡ None → IsOwn rd s n) → Fails rd s n f
rejected_here rd s n t e a (Unread b) h g own = here_fails rd s n e (Unread b) h (own (unread_by t e a h.0.1 g))
rejected_here rd s n t e a OutOfMemory h g own = tt

-- the fault of a part, once the part's segment is added
pub below : (rd : Bool) (P : Segment → Shape → Tree → Type 0) (key : Segment) (part : Shape) (node : Tree) (f g : Failure) → IsUnder key f g → Fails rd part node f → P key part node → FailsIn rd P g
below rd P key part node f OutOfMemory h w p = tt
below rd P key part node (Unread b) (Unread d) h w p = record { key = key; part = part; node = node; inner = b.value.mismatch; is_part = p; path = h.1; problem = h.2; below = w }
below rd P key part node OutOfMemory (Unread d) h w p = absurd h

pub below_missing : (rd : Bool) (P : Segment → Shape → Tree → Type 0) (key : Segment) (part : Shape) (e : ReadError) (f g : Failure) → IsHere part uninitialized e f → IsUnder key f g → P key part uninitialized → FailsIn rd P g
below_missing rd P key part e f g h u p = below rd P key part uninitialized f g u (here_fails rd part uninitialized e f h IsOwn.nothing) p

pub weaken : (rd : Bool) (P Q : Segment → Shape → Tree → Type 0) (f : Failure) → ((key : Segment) (s : Shape) (n : Tree) → P key s n → Q key s n) → FailsIn rd P f → FailsIn rd Q f
weaken rd P Q (Unread b) step w = record { key = w.key; part = w.part; node = w.node; inner = w.inner; is_part = step w.key w.part w.node w.is_part; path = w.path; problem = w.problem; below = w.below }
weaken rd P Q OutOfMemory step w = tt

-- from one of the parts to the whole
abbrev Steps : (Segment → Shape → Tree → Type 0) → Shape → Tree → Type 0
Steps P s n = (key : Segment) (path : List Segment) (t part : Shape) (m node : Tree) → P key t m → Leads path t m part node → Leads (key ∷ path) s n part node

pub into : (rd : Bool) (s : Shape) (n : Tree) (P : Segment → Shape → Tree → Type 0) (f : Failure) → Steps P s n → FailsIn rd P f → Fails rd s n f
into rd s n P (Unread b) step w =
    let m = w.below in
    record {
      part = m.part;
      node = m.node;
      unread = m.unread;
      own = m.own;
      leads = subst (λ p. Leads p s n m.part m.node) (sym w.path) (step w.key _ w.part m.part w.node m.node w.is_part m.leads);
      problem = subst (λ p. IsProblem p m.part m.node) (sym w.problem) m.problem;
    }
into rd s n P OutOfMemory step w = tt

-- the part of an option or a newtype has the path of the whole
through : (rd : Bool) (s t : Shape) (n m : Tree) (f : Failure) → ((path : List Segment) (part : Shape) (node : Tree) → Leads path t m part node → Leads path s n part node) → Fails rd t m f → Fails rd s n f
through rd s t n m (Unread b) step w = record { part = w.part; node = w.node; unread = w.unread; own = w.own; leads = step _ w.part w.node w.leads; problem = w.problem }
through rd s t n m OutOfMemory step w = tt

pub in_newtype : (rd : Bool) (s : Shape) (n : Tree) (f : Failure) → Fails rd s n f → Fails rd (Shape.newtype s) n f
in_newtype rd s n f w = through rd (Shape.newtype s) s n n f (λ path part node l. Leads.in_newtype l) w

pub in_full : (rd : Bool) (s : Shape) (n : Tree) (f : Failure) → IsFull n → Fails rd s n f → Fails rd (Shape.option s) n f
in_full rd s n f is w = through rd (Shape.option s) s n n f (λ path part node l. Leads.in_full is l) w

pub in_null : (rd : Bool) (s : Shape) (f : Failure) → Fails rd s (leaf NoValue) f → Fails rd (Shape.option s) (leaf Null) f
in_null rd s f w = through rd (Shape.option s) s (leaf Null) (leaf NoValue) f (λ path part node l. Leads.in_null l) w

pub in_list : (rd : Bool) (s : Shape) (n : Tree) (xs : List (Option Tree)) (f : Failure) → items n ≡ Some xs → FailsIn rd (IsItem s xs) f → Fails rd (Shape.sequence s) n f
in_list rd s n xs f is w = into rd (Shape.sequence s) n (IsItem s xs) f (λ key path t part m node p l. Leads.in_item is p l) w

pub in_tuple : (rd : Bool) (ss : Shapes) (n : Tree) (xs : List (Option Tree)) (f : Failure) → items n ≡ Some xs → FailsIn rd (IsTupleItem ss xs) f → Fails rd (Shape.tuple ss) n f
in_tuple rd ss n xs f is w = into rd (Shape.tuple ss) n (IsTupleItem ss xs) f (λ key path t part m node p l. Leads.in_tuple is p l) w

pub in_value : (rd : Bool) (k : KeyShape) (s : Shape) (n : Tree) (es : Entries) (f : Failure) → node_entries n ≡ Some es → FailsIn rd (IsValue s es) f → Fails rd (Shape.mapping k s) n f
in_value rd k s n es f is w = into rd (Shape.mapping k s) n (IsValue s es) f (λ key path t part m node p l. Leads.in_value is p l) w

pub in_places : (rd : Bool) (u : UnknownKeys) (fs : Fields) (xs : Items) (f : Failure) → FailsIn rd (IsPlaced fs (sequence_items xs)) f → Fails rd (Shape.struct u fs) (sequence xs) f
in_places rd u fs xs f w = into rd (Shape.struct u fs) (sequence xs) (IsPlaced fs (sequence_items xs)) f (λ key path t part m node p l. Leads.in_place p l) w

-- a missing part, whose error is what the part is looked up with
pub below_unread : {Y : Type 0} (rd : Bool) (P : Segment → Shape → Tree → Type 0) (key : Segment) (part : Shape) (t : Bool) (e : ReadError) (a : Option Y) (f g : Failure)
    → IsHere part uninitialized e f → IsUnder key f g → ReadRejects t e a → (a ≡ None → P key part uninitialized) → FailsIn rd P g
below_unread rd P key part t e a f OutOfMemory h u r step = tt
below_unread rd P key part t e a (Unread b) (Unread d) h u r step = below_missing rd P key part e (Unread b) (Unread d) h u (step (unread_by t e a h.0.1 r))
below_unread rd P key part t e a OutOfMemory (Unread d) h u r step = absurd u

-- what is known of a failure is known of the result that has it
pub if_err : {X : Type 0} {P Q : Failure → Type 0} (x : Result X Failure) → IfErr x P → ((f : Failure) → P f → Q f) → IfErr x Q
if_err (Ok x) h g = tt
if_err (Err f) h g = g f h

-- the failure of a node whose error has a message
pub here_custom : (s : Shape) (n : Tree) (e : ReadError) (f : Failure) → IsHere s n e f → ReadIsCustom e → IsCustomOrOutOfMemory (error_in f)
here_custom s n e (Unread b) h g = subst ReadIsCustom (sym h.0.0) g
here_custom s n e OutOfMemory h g = tt
