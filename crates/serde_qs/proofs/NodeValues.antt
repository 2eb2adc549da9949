-- What is returned of a node, and of the parts of a struct.
use Rattle.std.proofs.Common.{◌≡◌, Bool, true, false, List, ◌∷◌, Option, Some, None, Result, Ok, Err, refl, sym, ap, ap₂, ◌∙◌}
use Rattle.std.specs.Prelude.{cond, ◌&&◌, ◌||◌}
use Rattle.std.specs.Option.{option_map, option_and_then}
use Rattle.qs_spec.specs.Data.{Data, Members, members_of, Named}
use Rattle.qs_spec.specs.Data as d
use Rattle.qs_spec.specs.Shape.{Shape, Field, UnknownKeys, are_ignored, fields_of}
use Rattle.qs_spec.specs.Tree.{Tree, Entries}
use Rattle.qs_spec.specs.Node.{keys_are_allowed, keys_are_names, keys_are_text}
use Rattle.qs_spec.specs.internal.ReadFunction.{Reader, reads, reads_names, reads_places, struct_members}
use Rattle.qs_tree.specs.declared.error.Error.{Error}
use Rattle.qs_tree.specs.declared.error.Error.TheVariants as e
use Rattle.qs_data.specs.read.Errors.{IsCustomOrOutOfMemory, OnlyCustomUtf8OrOutOfMemory}
use Rattle.qs_data.specs.read.Gives.{Gives, Rejects}
use Rattle.qs_data.specs.read.TreeText.{entries_are_text}
use Rattle.qs_data.proofs.lemmas.read.Entries.{keys_bad}
use Rattle.qs_data.proofs.lemmas.read.Errors.{and_left, custom, rejected}
use Rattle.serde_qs.specs.Nodes.{by_names}
use Rattle.serde_qs.specs.internal.NodeParts.{members_read, names_read, value_found}
use Rattle.serde_qs.specs.Records.{struct_in}

-- what is returned of a part, as what is returned of a whole that means the same
pub widened : {X Y : Type 0} (view : X → Y) (t u : Bool) (x : Result X Error) (r s : Option Y) → Gives view t x r → r ≡ s → (t ≡ false → u ≡ false) → Gives view u x s
widened view t u (Ok x) r s g h f = sym h ∙ g
widened view t u (Err x) r s g h f = rejected t u x r s g (λ n. sym h ∙ n) f

-- a field that was found twice

pub found_twice : {Y : Type 0} (u : Bool) (x : Error) (m : Data → Option Y) (absent : Option Y) (r : Reader) (ts : List Tree) (s t : Tree) (more : List Tree)
    → IsCustomOrOutOfMemory x → ts ≡ s ∷ t ∷ more → Rejects u x (value_found m absent r ts)
found_twice u x m absent r ts s t more g h = custom u x (value_found m absent r ts) g (ap (value_found m absent r) h)

-- a value that may be left out, of one that is there

pub some_read : {A : Type 0} (m : Data → Option A) (o : Option Data) → option_map Some (option_and_then m o) ≡ option_and_then (λ x. option_map Some (m x)) o
some_read m None = refl
some_read m (Some x) = refl

-- the members of a node

tested_first : {Y : Type 0} (m : Members → Option Y) (a : Bool) (o : Option (List Named)) → cond a (option_and_then (λ ms. m (members_of ms)) o) None ≡ option_and_then (λ ms. m (members_of ms)) (option_and_then (λ ms. cond a (Some ms) None) o)
tested_first m true None = refl
tested_first m false None = refl
tested_first m true (Some ms) = refl
tested_first m false (Some ms) = refl

pub names_are : {Y : Type 0} (u : UnknownKeys) (reject_duplicates : Bool) (fs : List Field) (m : Members → Option Y) (es : Entries)
    → names_read u reject_duplicates fs m es ≡ cond (keys_are_allowed u (fields_of fs) es) (by_names reject_duplicates fs m es) None
names_are u reject_duplicates fs m es = sym (tested_first m (keys_are_allowed u (fields_of fs) es) (reads_names reject_duplicates (fields_of fs) es))

pub names_ok : {Y : Type 0} (u : UnknownKeys) (reject_duplicates : Bool) (fs : List Field) (m : Members → Option Y) (es : Entries) (y : Y) → keys_are_text es ≡ true → (keys_are_names (fields_of fs) es || are_ignored u) ≡ true
    → by_names reject_duplicates fs m es ≡ Some y → names_read u reject_duplicates fs m es ≡ Some y
names_ok u reject_duplicates fs m es y h k p = names_are u reject_duplicates fs m es ∙ ap₂ (λ a b. cond (a && b) (by_names reject_duplicates fs m es) None) h k ∙ p

untested : {Y : Type 0} (b : Bool) (o : Option Y) → o ≡ None → cond b o None ≡ None
untested true o p = p
untested false o p = refl

pub names_unread : {Y : Type 0} (u : UnknownKeys) (reject_duplicates : Bool) (fs : List Field) (m : Members → Option Y) (es : Entries) → by_names reject_duplicates fs m es ≡ None → names_read u reject_duplicates fs m es ≡ None
names_unread u reject_duplicates fs m es p = names_are u reject_duplicates fs m es ∙ untested (keys_are_allowed u (fields_of fs) es) (by_names reject_duplicates fs m es) p

-- a key that isn't allowed
pub names_disallowed : {Y : Type 0} (u : UnknownKeys) (reject_duplicates : Bool) (fs : List Field) (m : Members → Option Y) (es : Entries) → keys_are_allowed u (fields_of fs) es ≡ false → names_read u reject_duplicates fs m es ≡ None
names_disallowed u reject_duplicates fs m es h = names_are u reject_duplicates fs m es ∙ ap (λ a. cond a (by_names reject_duplicates fs m es) None) h

-- a key that isn't text
pub names_broken : {Y : Type 0} (u : UnknownKeys) (reject_duplicates : Bool) (fs : List Field) (m : Members → Option Y) (es : Entries) (x : Error) → keys_are_text es ≡ false → OnlyCustomUtf8OrOutOfMemory {X = Unit {0}} (Err x)
    → Rejects (entries_are_text es) x (names_read u reject_duplicates fs m es)
names_broken u reject_duplicates fs m es x h p = by x p
  where
    none : names_read u reject_duplicates fs m es ≡ None
    none = names_disallowed u reject_duplicates fs m es (and_left (keys_are_text es) (keys_are_names (fields_of fs) es || are_ignored u) h)

    by : (x : Error) → OnlyCustomUtf8OrOutOfMemory {X = Unit {0}} (Err x) → Rejects (entries_are_text es) x (names_read u reject_duplicates fs m es)
    by (e.Custom message) p = none
    by (e.Utf8 cause) p = (none, keys_bad es h)
    by e.OutOfMemory p = tt
    by (e.MaxSerializationDepthExceeded n) p = absurd p
    by (e.Parse message n) p = absurd p
    by e.Unsupported p = absurd p
    by (e.FromUtf8 cause) p = absurd p
    by (e.Io cause) p = absurd p
    by (e.ParseInt cause) p = absurd p
    by e.Failed p = absurd p

pub struct_read : {Y : Type 0} (u : UnknownKeys) (reject_duplicates : Bool) (fs : List Field) (m : Members → Option Y) (t : Tree) → members_read u reject_duplicates fs m t ≡ option_and_then (struct_in m) (reads reject_duplicates (Shape.struct u (fields_of fs)) t)
unfolding reads
struct_read u reject_duplicates fs m t = by (struct_members (keys_are_allowed u (fields_of fs)) (reads_names reject_duplicates (fields_of fs)) (reads_places reject_duplicates (fields_of fs)) t)
  where
    by : (o : Option (List Named)) → option_and_then (λ ms. m (members_of ms)) o ≡ option_and_then (struct_in m) (option_map (λ ms. d.struct (members_of ms)) o)
    by None = refl
    by (Some ms) = refl
