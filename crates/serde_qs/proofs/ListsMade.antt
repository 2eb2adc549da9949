-- The data of a list in one text.
use Rattle.std.proofs.Common.{◌≡◌, ◌∙◌, ℕ, Bool, true, List, Result, Ok, Err, ap, map, sym}
use Rattle.std.specs.Prelude.{IfOk}
use Rattle.std.specs.List.{list_all}
use Rattle.qs_spec.specs.Data.Data.{text}
use Rattle.qs_tree.specs.declared.error.Error.{Error}
use Rattle.qs_data.specs.data.Views.{data_of}
use Rattle.qs_data.specs.declared.data.data.Data.{Data}
use Rattle.serde_qs.specs.Delimited.{list_data}
use Rattle.serde_qs.specs.Items.{joined}
use Rattle.serde_qs.specs.internal.Fitting.{itself}

pub list_made : {A : Type 0} (in_range : A → Bool) (printed : A → List ℕ) (delimiter wanted : ℕ) (xs items : List A) → delimiter ≡ wanted → xs ≡ items → (r : Result Data Error) → IfOk r (λ x. list_all in_range xs ≡ true)
    → IfOk r (λ x. data_of x ≡ text (joined delimiter (map printed xs))) → IfOk r (λ x. data_of x ≡ list_data in_range printed wanted items)
list_made in_range printed delimiter wanted xs items delimited same (Ok x) valid made =
    made ∙ sym (itself (list_all in_range xs) (text (joined delimiter (map printed xs))) valid) ∙ ap (λ c. list_data in_range printed c xs) delimited
    ∙ ap (list_data in_range printed wanted) same
list_made in_range printed delimiter wanted xs items delimited same (Err e) valid made = tt
