-- The errors of what a step calls, as errors of the step.
use Rattle.std.proofs.Common.{◌≡◌, ◌≢◌, ◌⊎◌, inl, inr, refl, ℕ, List, Bool, true, false, Option, Some, None, sym, subst, ◌∙◌}
use Rattle.qs_tree.specs.Error.{IsCustomSaying}
use Rattle.qs_tree.specs.declared.error.Error.{Error}
use Rattle.qs_tree.specs.declared.error.Error.TheVariants as e
use Rattle.qs_data.specs.declared.read.error.ReadError.{ReadError}
use Rattle.qs_data.specs.declared.read.error.ReadError.TheVariants.{Custom, Utf8, OutOfMemory}
use Rattle.qs_data.specs.read.Errors.{IsCustomOrOutOfMemory, IsOfReading}
use Rattle.qs_data.specs.read.Gives.{Rejects}
use Rattle.qs_data.specs.read.internal.ReadError.{ReadIsCustom, ReadRejects}
use Rattle.qs_data.proofs.lemmas.read.ReadErrors.{narrowed_gives, passed, passed_custom}
use Rattle.qs_spec.specs.Config.{Config}
use Rattle.qs_spec.specs.Tree.{Tree, IsTree}
use Rattle.qs_serde.specs.Errors.{IsStepError}
use Rattle.qs_serde.specs.Inputs.{IsErrorOf}

pub of_rejects : {Y : Type 0} (t : Bool) (e : ReadError) (r : Option Y) → ReadRejects t e r → IsStepError t e
of_rejects t (Custom m) r h = tt
of_rejects t (Utf8 c) r h = h.1
of_rejects t OutOfMemory r h = tt

-- where there is more that isn't text
pub of_more : (t u : Bool) (e : ReadError) → IsStepError t e → (t ≡ false → u ≡ false) → IsStepError u e
of_more t u (Custom m) h f = tt
of_more t u (Utf8 c) h f = f h
of_more t u OutOfMemory h f = tt

pub of_custom : (t : Bool) (e : ReadError) → ReadIsCustom e → IsStepError t e
of_custom t (Custom m) h = tt
of_custom t (Utf8 c) h = absurd h
of_custom t OutOfMemory h = tt

-- each error of what a step calls is one of reading
pub custom_is_read : (e : Error) → IsCustomOrOutOfMemory e → IsOfReading e
custom_is_read (e.Custom m) h = tt
custom_is_read e.OutOfMemory h = tt
custom_is_read e h = absurd h

pub saying_is_read : (e : Error) (text : Option (List ℕ)) → IsCustomSaying e text → IsCustomOrOutOfMemory e
saying_is_read (e.Custom m) text h = tt
saying_is_read e.OutOfMemory text h = tt
saying_is_read e text h = absurd h

pub rejects_is_read : {Y : Type 0} (t : Bool) (e : Error) (r : Option Y) → Rejects t e r → IsOfReading e
rejects_is_read t (e.Custom m) r h = tt
rejects_is_read t (e.Utf8 c) r h = tt
rejects_is_read t e.OutOfMemory r h = tt
rejects_is_read t e r h = absurd h

-- the error of a text that isn't UTF-8
pub of_reading : (t : Bool) (e : ReadError) → t ≡ false → IsStepError t e
of_reading t (Custom m) n = tt
of_reading t (Utf8 c) n = n
of_reading t OutOfMemory n = tt

-- as errors of what has nothing to return
pub rejects_custom : {Y : Type 0} (t : Bool) (e : ReadError) (r : Option Y) → ReadIsCustom e → r ≡ None → ReadRejects t e r
rejects_custom t (Custom m) r h n = n
rejects_custom t (Utf8 c) r h n = absurd h
rejects_custom t OutOfMemory r h n = tt

pub rejects_further : {X Y : Type 0} (t u : Bool) (e : ReadError) (q : Option X) (r : Option Y) → ReadRejects t e q → (q ≡ None → r ≡ None) → (t ≡ false → u ≡ false) → ReadRejects u e r
rejects_further t u (Custom m) q r h f g = f h
rejects_further t u (Utf8 c) q r h f g = (f h.0, g h.1)
rejects_further t u OutOfMemory q r h f g = tt

pub rejects_memory : {Y : Type 0} (t : Bool) (e : ReadError) (r : Option Y) → e ≡ OutOfMemory → ReadRejects t e r
rejects_memory t e r h = subst (λ f. ReadRejects t f r) (sym h) tt

-- the error of an input that has a tree
pub of_tree : (config : Config) (input : List ℕ) (tree : Tree) (e : Error) → IsTree config.is_form config.max_depth input tree → IsOfReading e → IsErrorOf config input e
of_tree config input tree (e.Custom m) is h = (tree, is)
of_tree config input tree (e.Utf8 c) is h = (tree, is)
of_tree config input tree e.OutOfMemory is h = tt
of_tree config input tree e is h = absurd h

pub ruleset step_errors = (passed, passed_custom, narrowed_gives, of_rejects, of_more, of_custom, of_reading, custom_is_read, saying_is_read, rejects_is_read)

pub ruleset begin_errors = (passed, passed_custom, narrowed_gives, rejects_custom, rejects_further, rejects_memory, custom_is_read, rejects_is_read)

-- a hint keeps what an error rejects
pub hint_rejects : {Y : Type 0} (t : Bool) (e f : ReadError) (r : Option Y) → (f ≡ e) ⊎ (ReadIsCustom f × (e ≢ OutOfMemory)) → ReadRejects t e r → ReadRejects t f r
hint_rejects t e f r (inl same) h = subst (λ x. ReadRejects t x r) (sym same) h
hint_rejects t (Custom m) f r (inr is) h = rejects_custom t f r is.0 h
hint_rejects t (Utf8 c) f r (inr is) h = rejects_custom t f r is.0 h.0
hint_rejects t OutOfMemory f r (inr is) h = absurd (is.1 refl)

-- an error of an item isn't the end of the list
pub rejects_end : {Y : Type 0} (e : ReadError) (r : Option (Option Y)) → ReadRejects true e r → (e ≡ OutOfMemory) ⊎ (r ≡ Some None → ⊥)
rejects_end (Custom m) r h = inr (λ end. absurd (let n : None ≡ Some None = sym h ∙ end in cc))
rejects_end (Utf8 c) r h = absurd (let n : true ≡ false = h.1 in cc)
rejects_end OutOfMemory r h = inl refl
