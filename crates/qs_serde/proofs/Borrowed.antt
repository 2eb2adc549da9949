-- What is read of a text, and of which kind.
use Rattle.std.proofs.Common.{◌≡◌, ℕ, ℤ, List, [], Bool, true, None, Some, ap, ◌∙◌, ◌∷◌, false, Option, sym, if◌then◌else◌, codes}
use Rattle.std.specs.Option.{option_map, option_and_then}
use Rattle.std.specs.Str.{is_utf8, bytes_eq, chars}
use Rattle.qs_spec.specs.Data as d
use Rattle.qs_spec.specs.Shape as s
use Rattle.qs_spec.specs.Scalar.{signed_data, signed_number, text_data, unsigned_data, unsigned_number, boolean_data, character_data, only_character}
use Rattle.qs_spec.specs.Tree.{Tree}
use Rattle.qs_spec.specs.internal.ReadFunction.{reads, read_scalar}
use Rattle.qs_data.specs.read.internal.GivenText.{given_text}
use Rattle.qs_data.proofs.lemmas.read.Scalars.{scalar_is}
use Rattle.std.proofs.lemmas.Option.{same_Some, none-some}
use Rattle.qs_spec.specs.Data.{Data}
use Rattle.qs_spec.specs.Tree.Tree.{leaf, sequence, mapping, uninitialized}
use Rattle.qs_spec.specs.Leaf.Leaf.{NoValue, Null, Text}
use Rattle.qs_spec.specs.Node.{last_item}

pub text_read : (r : Bool) (t : Tree) (b : List ℕ) → given_text r t ≡ Some (Some b) → is_utf8 b ≡ true → reads r s.Shape.text t ≡ Some (d.text b)
unfolding reads
text_read r t b h good = scalar_is r (Some (d.text [])) text_data t (Some b) h ∙ rw good

pub bytes_read : (r : Bool) (t : Tree) (b : List ℕ) → given_text r t ≡ Some (Some b) → reads r s.Shape.bytes t ≡ Some (d.bytes b)
unfolding reads
bytes_read r t b h = scalar_is r (Some (d.bytes [])) (λ c. Some (d.bytes c)) t (Some b) h

pub unsigned_read : (r : Bool) (t : Tree) (b : List ℕ) (n : ℕ) → given_text r t ≡ Some (Some b) → unsigned_number 64 b ≡ Some n → reads r (s.Shape.unsigned 64) t ≡ Some (d.unsigned n)
unfolding reads
unsigned_read r t b n h is = scalar_is r None (unsigned_data 64) t (Some b) h ∙ ap (option_map d.unsigned) is

pub signed_read : (r : Bool) (t : Tree) (b : List ℕ) (z : ℤ) → given_text r t ≡ Some (Some b) → signed_number 64 b ≡ Some z → reads r (s.Shape.signed 64) t ≡ Some (d.signed z)
unfolding reads
signed_read r t b z h is = scalar_is r None (signed_data 64) t (Some b) h ∙ ap (option_map d.signed) is

-- A shape of a scalar reads only data of its kind.

-- what is read of no text and of no text's bytes isn't read at all
never_read : (r : Bool) (empty : Option Data) (get : List ℕ → Option Data) (t : Tree) (x : Data) → (empty ≡ Some x → ⊥) → ((b : List ℕ) → get b ≡ Some x → ⊥) → read_scalar r empty get t ≡ Some x → ⊥
never_read r empty get (leaf NoValue) x no_empty no_text h = no_empty h
never_read r empty get (leaf Null) x no_empty no_text h = no_empty h
never_read r empty get (leaf (Text b m)) x no_empty no_text h = no_text b h
never_read r empty get (sequence xs) x no_empty no_text h = by_last (last_item r xs) h where
  by_last : (o : Option (List ℕ)) → option_and_then get o ≡ Some x → ⊥
  by_last None e = none-some x e
  by_last (Some b) e = no_text b e
never_read r empty get (mapping es) x no_empty no_text h = none-some x h
never_read r empty get uninitialized x no_empty no_text h = none-some x h

abbrev IsNever : {X : Type 0} → (X → Data) → Data → Type 0
IsNever make x = (v : _) → ¬ (x ≡ make v)

never_made : {X : Type 0} (make : X → Data) (x : Data) (v : X) → IsNever make x → Some (make v) ≡ Some x → ⊥
never_made make x v n e = n v (sym (same_Some _ _ e))

never_mapped : {X : Type 0} (make : X → Data) (x : Data) (o : Option X) → IsNever make x → option_map make o ≡ Some x → ⊥
never_mapped make x None n e = none-some x e
never_mapped make x (Some v) n e = never_made make x v n e

boolean_text : (b : List ℕ) (x : Data) → IsNever d.boolean x → boolean_data b ≡ Some x → ⊥
boolean_text b x n h = go (bytes_eq b (codes "true")) (bytes_eq b (codes "false")) h where
  go : (p q : Bool) → (if p then Some (d.boolean true) else (if q then Some (d.boolean false) else None)) ≡ Some x → ⊥
  go true q e = never_made d.boolean x true n e
  go false true e = never_made d.boolean x false n e
  go false false e = none-some x e

character_text : (b : List ℕ) (x : Data) → IsNever d.character x → character_data b ≡ Some x → ⊥
character_text b x n h = go (is_utf8 b) (chars b) h where
  go : (u : Bool) (cs : List ℕ) → (if u then only_character cs else None) ≡ Some x → ⊥
  go true [] e = none-some x e
  go true (c ∷ []) e = never_made d.character x c n e
  go true (c ∷ e2 ∷ cs) e = none-some x e
  go false cs e = none-some x e

text_text : (b : List ℕ) (x : Data) → IsNever d.text x → text_data b ≡ Some x → ⊥
text_text b x n h = go (is_utf8 b) h where
  go : (u : Bool) → (if u then Some (d.text b) else None) ≡ Some x → ⊥
  go true e = never_made d.text x b n e
  go false e = none-some x e

pub boolean_only : (r : Bool) (t : Tree) (x : Data) → reads r s.Shape.boolean t ≡ Some x → ((v : Bool) → ¬ (x ≡ d.boolean v)) → ⊥
unfolding reads
boolean_only r t x h n = never_read r (Some (d.boolean true)) boolean_data t x (never_made d.boolean x true n) (λ b e. boolean_text b x n e) h

pub signed_only : (r : Bool) (t : Tree) (x : Data) → reads r (s.Shape.signed 64) t ≡ Some x → ((v : ℤ) → ¬ (x ≡ d.signed v)) → ⊥
unfolding reads
signed_only r t x h n = never_read r None (signed_data 64) t x (none-some x) (λ b e. never_mapped d.signed x (signed_number 64 b) n e) h

pub unsigned_only : (r : Bool) (t : Tree) (x : Data) → reads r (s.Shape.unsigned 64) t ≡ Some x → ((v : ℕ) → ¬ (x ≡ d.unsigned v)) → ⊥
unfolding reads
unsigned_only r t x h n = never_read r None (unsigned_data 64) t x (none-some x) (λ b e. never_mapped d.unsigned x (unsigned_number 64 b) n e) h

pub character_only : (r : Bool) (t : Tree) (x : Data) → reads r s.Shape.character t ≡ Some x → ((v : ℕ) → ¬ (x ≡ d.character v)) → ⊥
unfolding reads
character_only r (leaf NoValue) x h n = none-some x h
character_only r (leaf Null) x h n = none-some x h
character_only r (leaf (Text b m)) x h n = character_text b x n h
character_only r (sequence xs) x h n = none-some x h
character_only r (mapping es) x h n = none-some x h
character_only r uninitialized x h n = none-some x h

pub text_only : (r : Bool) (t : Tree) (x : Data) → reads r s.Shape.text t ≡ Some x → ((v : List ℕ) → ¬ (x ≡ d.text v)) → ⊥
unfolding reads
text_only r t x h n = never_read r (Some (d.text [])) text_data t x (never_made d.text x [] n) (λ b e. text_text b x n e) h

pub bytes_only : (r : Bool) (t : Tree) (x : Data) → reads r s.Shape.bytes t ≡ Some x → ((v : List ℕ) → ¬ (x ≡ d.bytes v)) → ⊥
unfolding reads
bytes_only r t x h n = never_read r (Some (d.bytes [])) (λ b. Some (d.bytes b)) t x (never_made d.bytes x [] n) (λ b e. never_made d.bytes x b n e) h
