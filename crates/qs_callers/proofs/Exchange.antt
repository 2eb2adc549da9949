-- What was written of a value is read as that value.
use Rattle.std.proofs.Common.{◌≡◌, Bool, true, List, ℕ, Result, Ok, Err, Option, inl, refl, sym, ◌∙◌}
use Rattle.std.proofs.lemmas.Option.{none-some, same_Some}
use Rattle.std.proofs.lemmas.List.Sorted.{IsPermutation-refl}
use Rattle.qs_spec.specs.Config.{default}
use Rattle.qs_spec.specs.Data.{Data}
use Rattle.qs_spec.specs.Entry.{entries}
use Rattle.qs_spec.specs.Plain.{is_plain}
use Rattle.qs_spec.specs.ReadBack.{IsPlainFor}
use Rattle.qs_tree.specs.declared.error.Error.{Error}
use Rattle.qs_tree.specs.declared.error.Error.TheVariants.{Custom, Utf8, OutOfMemory}
use Rattle.qs_callers.specs.Client.{IsValue}
use Rattle.serde_qs.specs.ComesBack.{ComesBack}
use Rattle.serde_qs.specs.Tables.{Table}
use Rattle.serde_qs.specs.Typed.{IsPlainWithin, ReturnsSame, ReturnsWritten}
use Rattle.serde_qs.specs.WrittenText.{text_of}
use Rattle.serde_qs.specs.internal.OwnTables.{own_back, own_fit}

same_value : {X V : Type 0} (datum : X → Data) (meaning : Data → Option V) (value : X → V) → ComesBack datum meaning value
    → (is_form : Bool) (x : X) → is_plain is_form (datum x) ≡ true → (result : Result X Error) → ReturnsSame value meaning (datum x) result → IsValue value (value x) result
same_value datum meaning value back is_form x plain (Ok y) same =
    same_Some (value y) (value x) (sym same.2 ∙ back is_form x same.0 plain same.1)
same_value datum meaning value back is_form x plain (Err (Custom message)) same = none-some (value x) (sym same.2 ∙ back is_form x same.0 plain same.1)
same_value datum meaning value back is_form x plain (Err (Utf8 cause)) same = none-some (value x) (sym same.2 ∙ back is_form x same.0 plain same.1)
same_value datum meaning value back is_form x plain (Err OutOfMemory) same = tt
same_value datum meaning value back is_form x plain (Err _) same = absurd same

pub exchanged : {X : Type 0} (t : Table X) (datum : X → Data) → ((x : X) → t.datum x ≡ datum x) → (x : X) → IsPlainWithin default (datum x)
    → (input : List ℕ) → input ≡ text_of default (datum x) → (result : Result X Error) → ReturnsWritten t.value default t.shape t.meaning input result → IsValue t.value (t.value x) result
exchanged t datum same x plain input is result returned =
    let fitting : IsPlainFor default t.shape (datum x) = record { plain = plain.plain; fits = own_fit t datum same default.is_form x plain.plain; whole = plain.whole } in
    same_value datum t.meaning t.value (own_back t datum same) default.is_form x plain.plain result
    (returned.returns (datum x) (entries default (datum x)).entries fitting (inl (refl, IsPermutation-refl (entries default (datum x)).entries)) is)
