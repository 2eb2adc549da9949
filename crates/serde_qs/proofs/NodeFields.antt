-- The fields of a struct, read from a node: by their names among keys, and by their indices among items.
use Rattle.std.proofs.Common.{◌≡◌, Bool, true, false, List, [], ◌∷◌, Option, Some, None, Result, refl, sym, ap, ap₂, ◌∙◌}
use Rattle.std.specs.Result.{IsErrAnd}
use Rattle.std.specs.Prelude.{ℕ, if◌then◌else◌, not, cond, is_some}
use Rattle.std.specs.Option.{option_map, option_and_then}
use Rattle.std.specs.Str.{bytes_eq}
use Rattle.std.proofs.lemmas.Slice.Eq.{bytes_eq-Decides}
use Rattle.qs_spec.specs.Data as d
use Rattle.qs_spec.specs.Data.{Data, Members, no_members, one_member, members_of, Named}
use Rattle.qs_spec.specs.Shape.{Shape, Field, Fields, no_fields, one_field, fields_of, is_option, is_field_name, field_names_differ}
use Rattle.qs_spec.specs.Tree.{Tree, Items, Entries}
use Rattle.qs_spec.specs.Tree.Items.{no_items, item}
use Rattle.qs_spec.specs.Node.{found}
use Rattle.qs_spec.specs.internal.ReadFunction.{Reader, reads, reads_names, reads_places, read_field, read_place, items_after, with_field, with_front}
use Rattle.qs_tree.specs.declared.error.Error.{Error}
use Rattle.qs_data.specs.read.Gives.{Gives, Rejects}
use Rattle.qs_data.specs.read.TreeText.{is_text, items_are_text}
use Rattle.qs_data.proofs.lemmas.read.Errors.{and_right, gives_exit}
use Rattle.serde_qs.specs.FieldTypes.{absent, is_first_named, keyless}
use Rattle.serde_qs.specs.Meaning.{both}
use Rattle.serde_qs.specs.Nodes.{by_names, by_places, missing_data}
use Rattle.serde_qs.specs.internal.NodeParts.{value_found, value_placed}
use Rattle.serde_qs.specs.Records.{field_shape, field_in, first_of, others_of}
use Rattle.serde_qs.specs.internal.Booleans.{both_hold}
use Rattle.serde_qs.specs.internal.FieldTypes.{itself_named, later_named, other_field}

no_pair : {A B : Type 0} (a : Option A) (b : Option B) → b ≡ None → None ≡ both a b
no_pair None b h = refl
no_pair (Some x) b h = sym (ap (option_map (λ y. (x, y))) h)

same_name : (n : List ℕ) → bytes_eq n n ≡ true
same_name n = (bytes_eq-Decides n n).1 refl

-- what is meant by the fields after the first
abbrev rest_in : {B : Type 0} → (List (List ℕ) → Members → Option B) → List (List ℕ) → Option (List Named) → Option B
rest_in others names rest = option_and_then (λ ms. others (others_of names) (members_of ms)) rest

-- the first of the members that are read has the name of a field

first_there : (name : List ℕ) (s : Shape) (o : Bool) (fs : Fields) (rest : Option (List Named)) → ((ms : List Named) → rest ≡ Some ms → is_first_named fs (members_of ms) ≡ true)
    → (x : Option (Option Data)) (ms : List Named) → option_and_then (λ y. with_field name y rest) x ≡ Some ms → is_first_named (one_field name s o fs) (members_of ms) ≡ true
first_there name s o fs rest h None ms e = absurd cc
first_there name s o fs rest h (Some None) ms e = later_named name s o fs (members_of ms) (h ms e)
first_there name s o fs None h (Some (Some x)) ms e = absurd cc
first_there name s o fs (Some rs) h (Some (Some x)) ms e =
    let is : (name, x) ∷ rs ≡ ms = cc in
    ap (λ ys. is_first_named (one_field name s o fs) (members_of ys)) (sym is) ∙ itself_named name (is_field_name name fs)

names_named : (reject_duplicates : Bool) (fs : List Field) (es : Entries) (ms : List Named) → reads_names reject_duplicates (fields_of fs) es ≡ Some ms → is_first_named (fields_of fs) (members_of ms) ≡ true
unfolding reads
names_named reject_duplicates [] es ms e = let is : [] ≡ ms = cc in ap (λ ys. is_first_named no_fields (members_of ys)) (sym is)
names_named reject_duplicates (f ∷ fs) es ms e =
    first_there f.0 f.1 f.2 (fields_of fs) (reads_names reject_duplicates (fields_of fs) es) (names_named reject_duplicates fs es) (read_field f.2 (is_option f.1) (reads reject_duplicates f.1) (found f.0 es)) ms e

places_named : (reject_duplicates : Bool) (fs : List Field) (xs : Items) (ms : List Named) → reads_places reject_duplicates (fields_of fs) xs ≡ Some ms → is_first_named (fields_of fs) (members_of ms) ≡ true
unfolding reads
places_named reject_duplicates [] xs ms e = let is : [] ≡ ms = cc in ap (λ ys. is_first_named no_fields (members_of ys)) (sym is)
places_named reject_duplicates (f ∷ fs) xs ms e =
    first_there f.0 f.1 f.2 (fields_of fs) (reads_places reject_duplicates (fields_of fs) (items_after xs)) (places_named reject_duplicates fs (items_after xs)) (read_place f.2 (reads reject_duplicates f.1) xs) ms e

-- a field and those after it

module _ {A B : Type 0} (m : Data → Option A) (others : List (List ℕ) → Members → Option B) (names : List (List ℕ)) (rest : Option (List Named)) where
  abbrev first : List ℕ
  first = first_of names

  -- the field is there
  there : (v : Option A) (o : Option Data) → option_and_then (λ ms. field_in v m others names (members_of ms)) (option_and_then (λ x. with_field first x rest) (option_map Some o)) ≡ both (option_and_then m o) (rest_in others names rest)
  there v None = refl
  there v (Some x) = by rest
    where
      by : (rest : Option (List Named)) → option_and_then (λ ms. field_in v m others names (members_of ms)) (with_front (first, x) rest) ≡ both (m x) (rest_in others names rest)
      by None = no_pair (m x) None refl
      by (Some ms) = ap (λ b. if b then both (m x) (others (others_of names) (members_of ms)) else both v (others (others_of names) (one_member first x (members_of ms)))) (same_name first)

  -- the field isn't there, and may be missing
  module _ (fs : Fields) (free : not (is_field_name first fs) ≡ true) (named : (ms : List Named) → rest ≡ Some ms → is_first_named fs (members_of ms) ≡ true) where
    gone : (v : Option A) → option_and_then (λ ms. field_in v m others names (members_of ms)) rest ≡ both v (rest_in others names rest)
    gone v = by rest named
      where
        by : (rest : Option (List Named)) → ((ms : List Named) → rest ≡ Some ms → is_first_named fs (members_of ms) ≡ true)
            → option_and_then (λ ms. field_in v m others names (members_of ms)) rest ≡ both v (rest_in others names rest)
        by None named = no_pair v None refl
        by (Some []) named = refl
        by (Some (p ∷ ms)) named =
            ap (λ b. if b then both (m p.1) (others (others_of names) (members_of ms)) else both v (others (others_of names) (one_member p.0 p.1 (members_of ms)))) (other_field first p.0 fs free (named (p ∷ ms) refl))

    by_name : (missing : Option (Option A)) (p : Bool) (r : Reader) (ts : List Tree)
        → option_and_then (λ ms. field_in (absent missing) m others names (members_of ms)) (option_and_then (λ x. with_field first x rest) (read_field (is_some missing) p r ts))
        ≡ both (value_found m (keyless m (cond p (Some d.none) None) missing) r ts) (rest_in others names rest)
    by_name None true r [] = there None (Some d.none)
    by_name None false r [] = refl
    by_name (Some v) p r [] = gone v
    by_name missing p r (t ∷ []) = there (absent missing) (r t)
    by_name missing p r (t ∷ u ∷ ts) = refl

    by_place : (missing : Option (Option A)) (r : Reader) (xs : Items)
        → option_and_then (λ ms. field_in (absent missing) m others names (members_of ms)) (option_and_then (λ x. with_field first x rest) (read_place (is_some missing) r xs)) ≡ both (value_placed m (absent missing) r xs) (rest_in others names rest)
    by_place None r no_items = refl
    by_place (Some v) r no_items = gone v
    by_place missing r (item t xs) = there (absent missing) (r t)

-- the same by the names that a function has split

module _ {A B : Type 0} (missing : Option (Option A)) (m : Data → Option A) (others : List (List ℕ) → Members → Option B) (reject_duplicates : Bool) (s : Shape) (shape : List (List ℕ) → List Field) (names : List (List ℕ))
    (name : List ℕ) (rest : List (List ℕ)) (is_first : name ≡ first_of names) (are_others : rest ≡ others_of names) (differ : field_names_differ (fields_of (field_shape s (is_some missing) shape names)) ≡ true) where
  -- the first name is none of the others, and these differ too
  names_differ : (not (is_field_name (first_of names) (fields_of (shape (others_of names)))) ≡ true) × (field_names_differ (fields_of (shape (others_of names))) ≡ true)
  names_differ = both_hold (not (is_field_name (first_of names) (fields_of (shape (others_of names))))) (field_names_differ (fields_of (shape (others_of names)))) differ

  pub others_differ : field_names_differ (fields_of (shape rest)) ≡ true
  others_differ = ap (λ ns. field_names_differ (fields_of (shape ns))) are_others ∙ names_differ.1

  pub field_by_name : (es : Entries) → by_names reject_duplicates (field_shape s (is_some missing) shape names) (field_in (absent missing) m others names) es
      ≡ both (value_found m (keyless m (missing_data s) missing) (reads reject_duplicates s) (found name es)) (by_names reject_duplicates (shape rest) (others rest) es)
  unfolding reads
  field_by_name es =
      let fs = shape (others_of names) in
      by_name m others names (reads_names reject_duplicates (fields_of fs) es) (fields_of fs) names_differ.0 (names_named reject_duplicates fs es) missing (is_option s) (reads reject_duplicates s) (found (first_of names) es)
      ∙ ap₂ (λ n ns. both (value_found m (keyless m (missing_data s) missing) (reads reject_duplicates s) (found n es)) (by_names reject_duplicates (shape ns) (others ns) es)) (sym is_first) (sym are_others)

  pub field_by_place : (xs : Items) → by_places reject_duplicates (field_shape s (is_some missing) shape names) (field_in (absent missing) m others names) xs
      ≡ both (value_placed m (absent missing) (reads reject_duplicates s) xs) (by_places reject_duplicates (shape rest) (others rest) (items_after xs))
  unfolding reads
  field_by_place xs =
      let fs = shape (others_of names) in
      by_place m others names (reads_places reject_duplicates (fields_of fs) (items_after xs)) (fields_of fs) names_differ.0 (places_named reject_duplicates fs (items_after xs)) missing (reads reject_duplicates s) xs
      ∙ ap (λ ns. both (value_placed m (absent missing) (reads reject_duplicates s) xs) (by_places reject_duplicates (shape ns) (others ns) (items_after xs))) (sym are_others)

-- of what was read of the first field and of the others

pub both_read : {A B : Type 0} (whole : Option (A × B)) (a : Option A) (b : Option B) (x : A) (y : B) → whole ≡ both a b → a ≡ Some x → b ≡ Some y → whole ≡ Some (x, y)
both_read whole a b x y h p q = h ∙ ap₂ both p q

pub first_unread : {X A B : Type 0} (view : X → A × B) (t u : Bool) (result : Result X Error) (x : Error) (whole : Option (A × B)) (a : Option A) (b : Option B)
    → IsErrAnd result (λ y. y ≡ x) → Rejects t x a → whole ≡ both a b → (t ≡ false → u ≡ false) → Gives view u result whole
first_unread view t u result x whole a b is g h f = gives_exit view t u result x a whole is g (λ none. h ∙ ap (λ o. both o b) none) f

pub others_unread : {X A B : Type 0} (view : X → A × B) (t u : Bool) (result : Result X Error) (x : Error) (whole : Option (A × B)) (a : Option A) (b : Option B)
    → IsErrAnd result (λ y. y ≡ x) → Rejects t x b → whole ≡ both a b → (t ≡ false → u ≡ false) → Gives view u result whole
others_unread view t u result x whole a b is g h f = gives_exit view t u result x b whole is g (λ none. h ∙ sym (no_pair a b none)) f

-- items after the first that aren't all text stand among items that aren't
pub after_bad : (xs ys : Items) → ys ≡ items_after xs → items_are_text ys ≡ false → items_are_text xs ≡ false
after_bad no_items ys h f = ap items_are_text (sym h) ∙ f
after_bad (item t xs) ys h f = and_right (is_text t) (items_are_text xs) (ap items_are_text (sym h) ∙ f)
