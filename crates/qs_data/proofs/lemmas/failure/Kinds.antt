-- What is wrong with a node, by the kind of its shape.
use Rattle.qs_data.proofs.Common.{◌≡◌, ◌∙◌, ℕ, Bool, true, false, cond, List, [], ◌∷◌, Option, Some, None, refl, sym, ap, subst, Segment, segment_text, Shape, KeyShape, Fields, Variants, Tree, Entries, leaf, mapping, sequence, uninitialized, entry, no_entries, variant_named, ReadError, as_map, under_empty, unit_variant_data}
use Rattle.std.specs.Option.{is_some}
use Rattle.qs_spec.specs.Leaf.Leaf.{NoValue, Null, Text}
use Rattle.qs_spec.specs.Shape.{Shapes, UnknownKeys}
use Rattle.qs_data.specs.read.Entries.{node_entries}
use Rattle.qs_data.specs.declared.failure.failure.Failure.{Failure}
use Rattle.qs_data.specs.declared.failure.failure.Failure.TheVariants.{Unread, OutOfMemory}
use Rattle.qs_data.specs.declared.failure.mismatch.Problem.{Problem}
use Rattle.qs_data.specs.declared.failure.mismatch.Problem.TheVariants.{Unfit, UnexpectedKey}
use Rattle.qs_data.specs.declared.failure.expected.Expected.{Expected}
use Rattle.qs_data.specs.failure.Expected.{Expects}
use Rattle.qs_data.specs.failure.Mismatch.{IsProblem, Says}
use Rattle.qs_data.specs.failure.Own.{has_fields, has_parts, names_variant}
use Rattle.qs_data.specs.failure.Unexpected.{unexpected_among, unexpected_key}
use Rattle.qs_data.specs.failure.internal.Failing.{IsHere, IsNotMemory, IsTextOf, SaysKey, SaysOf, is_text_leaf, names}

-- these shapes allow any key
leaf_among : (s : Shape) (es : Entries) → has_parts s ≡ false → unexpected_among s es ≡ None
leaf_among Shape.unit es h = refl
leaf_among Shape.boolean es h = refl
leaf_among (Shape.unsigned bits) es h = refl
leaf_among (Shape.signed bits) es h = refl
leaf_among Shape.character es h = refl
leaf_among Shape.text es h = refl
leaf_among Shape.bytes es h = refl
leaf_among (Shape.option s) es h = absurd cc
leaf_among (Shape.sequence s) es h = absurd cc
leaf_among (Shape.tuple ss) es h = absurd cc
leaf_among (Shape.mapping k s) es h = absurd cc
leaf_among (Shape.struct u fs) es h = absurd cc
leaf_among (Shape.newtype s) es h = absurd cc
leaf_among (Shape.enumeration vs) es h = absurd cc
leaf_among Shape.any es h = refl
leaf_among Shape.ignored es h = refl

allows : (s : Shape) (n : Tree) → ((es : Entries) → unexpected_among s es ≡ None) → unexpected_key s n ≡ None
allows s (leaf l) h = refl
allows s (sequence xs) h = refl
allows s (mapping es) h = h es
allows s uninitialized h = refl

pub leaf_key : (s : Shape) (n : Tree) → has_parts s ≡ false → unexpected_key s n ≡ None
leaf_key s n h = allows s n (λ es. leaf_among s es h)

list_key : (s : Shape) (n : Tree) → unexpected_key (Shape.sequence s) n ≡ None
list_key s n = allows (Shape.sequence s) n (λ es. refl)

tuple_key : (ss : Shapes) (n : Tree) → unexpected_key (Shape.tuple ss) n ≡ None
tuple_key ss n = allows (Shape.tuple ss) n (λ es. refl)

-- what is said of a node is what is wrong with it
says : (key : Option Segment) (s : Shape) (x : Expected) (n : Tree) (p : Problem) → Expects s x → Says key (λ e. e ≡ x) n p → Says key (Expects s) n p
says None s x n (Unfit e a) is h = (subst (Expects s) (sym h.0) is, h.1)
says None s x n (UnexpectedKey k e) is h = absurd h
says (Some key) s x n (Unfit e a) is h = absurd h
says (Some key) s x n (UnexpectedKey k e) is h = (h.0, subst (Expects s) (sym h.1) is)

pub said : (key : Option Segment) (s : Shape) (x : Expected) (n : Tree) (e : ReadError) (f : Failure) → unexpected_key s n ≡ key → Expects s x → SaysOf key x n e f → IsHere s n e f
said key s x n e (Unread b) same is h = (h.0, h.1, subst (λ k. Says k (Expects s) n b.value.mismatch.problem) (sym same) (says key s x n b.value.mismatch.problem is h.2))
said key s x n e OutOfMemory same is h = tt

pub said_of_list : (s : Shape) (x : Expected) (n : Tree) (e : ReadError) (f : Failure) → Expects (Shape.sequence s) x → SaysOf None x n e f → IsHere (Shape.sequence s) n e f
said_of_list s x n e f is h = said None (Shape.sequence s) x n e f (list_key s n) is h

pub said_of_tuple : (ss : Shapes) (x : Expected) (n : Tree) (e : ReadError) (f : Failure) → Expects (Shape.tuple ss) x → SaysOf None x n e f → IsHere (Shape.tuple ss) n e f
said_of_tuple ss x n e f is h = said None (Shape.tuple ss) x n e f (tuple_key ss n) is h

-- the first key of a map, if it names no variant
pub unnamed_key : (vs : Variants) (key : Segment) (escaped : Bool) (n : Tree) (es : Entries) → variant_named (segment_text key) vs ≡ None → unexpected_key (Shape.enumeration vs) (mapping (entry key escaped n es)) ≡ Some key
unnamed_key vs key escaped n es h = ap (λ v. cond (is_some v) None (Some key)) h

-- the unexpected key of a node is what is wrong with it, whatever stands there
same_key : (key : Segment) (P : Expected → Type 0) (n m : Tree) (p : Problem) → Says (Some key) P m p → Says (Some key) P n p
same_key key P n m (Unfit e a) h = absurd h
same_key key P n m (UnexpectedKey k e) h = h

pub said_key : (key : Segment) (s : Shape) (x : Expected) (n : Tree) (e : ReadError) (f : Failure) → Expects s x → SaysOf (Some key) x n e f → SaysKey key s e f
said_key key s x n e (Unread b) is h = (h.0, h.1, same_key key (Expects s) uninitialized n b.value.mismatch.problem (says (Some key) s x n b.value.mismatch.problem is h.2))
said_key key s x n e OutOfMemory is h = tt

pub key_here : (key : Segment) (s : Shape) (n : Tree) (e : ReadError) (f : Failure) → SaysKey key s e f → (IsNotMemory e → unexpected_key s n ≡ Some key) → IsHere s n e f
key_here key s n e (Unread b) h same =
    (h.0, h.1, subst (λ k. Says k (Expects s) n b.value.mismatch.problem) (sym (same h.0.1)) (same_key key (Expects s) n uninitialized b.value.mismatch.problem h.2))
key_here key s n e OutOfMemory h same = tt

-- a text, as a map
pub text_entries : (n : Tree) → is_text_leaf n ≡ true → node_entries n ≡ Some (under_empty n)
text_entries (leaf (Text bytes escaped)) h = refl
text_entries (leaf NoValue) h = absurd cc
text_entries (leaf Null) h = absurd cc
text_entries (sequence xs) h = absurd cc
text_entries (mapping es) h = absurd cc
text_entries uninitialized h = absurd cc

pub text_key : (s : Shape) (n : Tree) → is_text_leaf n ≡ true → unexpected_key s n ≡ None
text_key s (leaf l) h = refl
text_key s (sequence xs) h = absurd cc
text_key s (mapping es) h = absurd cc
text_key s uninitialized h = absurd cc

pub text_held : (n : Tree) → is_text_leaf n ≡ true → as_map n ≡ mapping (under_empty n)
text_held (leaf (Text bytes escaped)) h = refl
text_held (leaf NoValue) h = absurd cc
text_held (leaf Null) h = absurd cc
text_held (sequence xs) h = absurd cc
text_held (mapping es) h = absurd cc
text_held uninitialized h = absurd cc

-- a node without fields isn't a map
pub fields_key : (u : UnknownKeys) (fs : Fields) (n : Tree) → has_fields n ≡ false → unexpected_key (Shape.struct u fs) n ≡ None
fields_key u fs (leaf l) h = refl
fields_key u fs (sequence xs) h = absurd cc
fields_key u fs (mapping es) h = absurd cc
fields_key u fs uninitialized h = refl

-- a node that names no variant, and isn't a map
pub enum_key : (vs : Variants) (n : Tree) → names n ≡ false → unexpected_key (Shape.enumeration vs) n ≡ None
enum_key vs (leaf l) h = refl
enum_key vs (sequence xs) h = refl
enum_key vs (mapping es) h = absurd cc
enum_key vs uninitialized h = refl

pub unnamed : (vs : Variants) (n : Tree) → names n ≡ false → names_variant vs n ≡ false
unnamed vs (leaf NoValue) h = refl
unnamed vs (leaf Null) h = refl
unnamed vs (leaf (Text bytes escaped)) h = absurd cc
unnamed vs (sequence xs) h = refl
unnamed vs (mapping es) h = absurd cc
unnamed vs uninitialized h = refl

-- a node without entries isn't a map
pub entries_key : (k : KeyShape) (s : Shape) (n : Tree) → node_entries n ≡ None → unexpected_key (Shape.mapping k s) n ≡ None
entries_key k s (leaf l) h = refl
entries_key k s (sequence xs) h = refl
entries_key k s (mapping es) h = absurd cc
entries_key k s uninitialized h = refl

-- a text that names no unit variant
pub text_is : (text : List ℕ) (n : Tree) → IsTextOf text n → is_text_leaf n ≡ true
text_is text (leaf (Text bytes escaped)) h = refl
text_is text (leaf NoValue) h = absurd h
text_is text (leaf Null) h = absurd h
text_is text (sequence xs) h = absurd h
text_is text (mapping es) h = absurd h
text_is text uninitialized h = absurd h

pub unnamed_text : (vs : Variants) (text : List ℕ) (n : Tree) → IsTextOf text n → unit_variant_data vs text ≡ None → names_variant vs n ≡ false
unnamed_text vs text (leaf (Text bytes escaped)) h none = ap (λ b. is_some (unit_variant_data vs b)) h ∙ ap is_some none
unnamed_text vs text (leaf NoValue) h none = refl
unnamed_text vs text (leaf Null) h none = refl
unnamed_text vs text (sequence xs) h none = refl
unnamed_text vs text (mapping es) h none = absurd h
unnamed_text vs text uninitialized h none = refl
