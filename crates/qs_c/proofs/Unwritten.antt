-- What an error of writing says.
use Rattle.std.proofs.Common.{◌≡◌, ◌↔◌, ℕ, Bool, false, true, Result, Ok, Err, Some, sym, subst, refl, ◌∙◌}
use Rattle.std.proofs.lemmas.Bool.{false≢true}
use Rattle.std.specs.Prelude.{IfErr}
use Rattle.std.specs.Result.{IsErrAnd}
use Rattle.qs_spec.specs.Config.{Config}
use Rattle.qs_spec.specs.Data.{Data}
use Rattle.qs_spec.specs.Entry.{entries, too_deep, bad_key}
use Rattle.qs_tree.specs.declared.error.Error.{Error}
use Rattle.qs_tree.specs.declared.error.Error.TheVariants.{Custom, MaxSerializationDepthExceeded, Parse, Unsupported, FromUtf8, Io, ParseInt, Utf8, OutOfMemory, Failed}
use Rattle.qs_tree.specs.Error.{IsTooDeep, IsUnsupported, IsFailed}
use Rattle.qs_data.specs.write.Errors.{IsWriteError}
use Rattle.qs_c.specs.Errors.{kind_of, position_of}
use Rattle.qs_c.specs.internal.Unwritten.{IsUnwritten}
use Rattle.qs_c.specs.Outcomes.{WhyUnwritten}

why : (e : Error) (n : ℕ) (config : Config) (x : Data) → IsWriteError {T = Unit {0}} (Err e)
    → ((m : ℕ) → IsTooDeep {T = Unit {0}} (Err e) m → (m ≡ n) × ((entries config x).error ≡ Some too_deep))
    → (IsUnsupported {T = Unit {0}} (Err e) → (entries config x).error ≡ Some bad_key)
    → (IsFailed {T = Unit {0}} (Err e) → ⊥) → WhyUnwritten (kind_of e) (position_of e) config x
why (Custom m) n config x w deep key failed = absurd w
why (MaxSerializationDepthExceeded d) n config x w deep key failed = (refl, (deep d refl).1)
why (Parse m p) n config x w deep key failed = absurd w
why Unsupported n config x w deep key failed = (refl, key tt)
why (FromUtf8 c) n config x w deep key failed = absurd w
why (Io c) n config x w deep key failed = refl
why (ParseInt c) n config x w deep key failed = absurd w
why (Utf8 c) n config x w deep key failed = absurd w
why OutOfMemory n config x w deep key failed = refl
why Failed n config x w deep key failed = absurd (failed tt)

-- the error that is returned is that of the serializer
pub unwritten : {A : Type 0} (r : Result A Error) (e : Error) (n : ℕ) (old config : Config) (x : Data) (b : Bool) → IsErrAnd r (λ y. y ≡ e) → old ≡ config → IsWriteError {T = Unit {0}} (Err e)
    → ((m : ℕ) → IsTooDeep {T = Unit {0}} (Err e) m → (m ≡ n) × ((entries old x).error ≡ Some too_deep))
    → (IsUnsupported {T = Unit {0}} (Err e) → (entries old x).error ≡ Some bad_key)
    → IsFailed {T = Unit {0}} (Err e) ↔ (b ≡ true) → b ≡ false → IfErr r (λ error. WhyUnwritten (kind_of error) (position_of error) config x)
unwritten (Ok a) e n old config x b h same w deep key failed fresh = tt
unwritten (Err y) e n old config x b h same w deep key failed fresh =
    let at_old = why e n old x w deep key (λ f. false≢true (sym fresh ∙ failed.0 f)) in
    let P : Error → Type 0 = λ error. WhyUnwritten (kind_of error) (position_of error) config x in
    let Q : Config → Type 0 = λ c. WhyUnwritten (kind_of e) (position_of e) c x in
    subst P (sym h) (subst Q same at_old)

-- no other error than those of a serializer that hadn't failed, with its limit
limited : (e : Error) (config : Config) (x : Data) → IsWriteError {T = Unit {0}} (Err e)
    → ((m : ℕ) → IsTooDeep {T = Unit {0}} (Err e) m → (m ≡ config.max_depth) × ((entries config x).error ≡ Some too_deep))
    → (IsFailed {T = Unit {0}} (Err e) → ⊥) → IsUnwritten config.max_depth e
limited (Custom m) config x w deep failed = absurd w
limited (MaxSerializationDepthExceeded d) config x w deep failed = (deep d refl).0
limited (Parse m p) config x w deep failed = absurd w
limited Unsupported config x w deep failed = tt
limited (FromUtf8 c) config x w deep failed = absurd w
limited (Io c) config x w deep failed = tt
limited (ParseInt c) config x w deep failed = absurd w
limited (Utf8 c) config x w deep failed = absurd w
limited OutOfMemory config x w deep failed = tt
limited Failed config x w deep failed = absurd (failed tt)

pub errors : {A : Type 0} (r : Result A Error) (e : Error) (old config : Config) (x : Data) (b : Bool) → IsErrAnd r (λ y. y ≡ e) → old ≡ config → IsWriteError {T = Unit {0}} (Err e)
    → ((m : ℕ) → IsTooDeep {T = Unit {0}} (Err e) m → (m ≡ old.max_depth) × ((entries old x).error ≡ Some too_deep))
    → IsFailed {T = Unit {0}} (Err e) ↔ (b ≡ true) → b ≡ false → IfErr r (IsUnwritten config.max_depth)
errors (Ok a) e old config x b h same w deep failed fresh = tt
errors (Err y) e old config x b h same w deep failed fresh =
    let at_old = limited e old x w deep (λ f. false≢true (sym fresh ∙ failed.0 f)) in
    subst (IsUnwritten config.max_depth) (sym h) (subst (λ c. IsUnwritten c.max_depth e) same at_old)
