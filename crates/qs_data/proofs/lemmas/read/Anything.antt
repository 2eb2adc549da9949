-- Whatever is there, read as a list where it is one.
use Rattle.qs_data.proofs.Common.{◌≡◌, Bool, true, false, List, Option, Some, None, sym, ap, ◌∙◌, inl, inr, cases_Bool, option_map, values_of, Tree, sequence, mapping, items, are_ints, sequence_items, placed, read_each, same_Some}
use Rattle.qs_spec.specs.Data.{Data}
use Rattle.qs_spec.specs.internal.ReadFunction.{any_data}
use Rattle.qs_spec.proofs.AnyIsRead.{sequence_is, places_are}

abbrev pub is_list : Tree → Bool
is_list (sequence xs) = true
is_list (mapping es) = true
is_list _ = false

-- a sequence, or a map whose keys are integers
pub any_list : (t : Tree) (xs : List (Option Tree)) → is_list t ≡ true → items t ≡ Some xs → any_data t ≡ option_map (λ ds. Data.sequence (values_of ds)) (read_each any_data xs)
any_list (sequence ys) xs w h = sequence_is ys ∙ ap (λ zs. option_map (λ ds. Data.sequence (values_of ds)) (read_each any_data zs)) (same_Some (sequence_items ys) xs h)
any_list (mapping es) xs w h = elim (cases_Bool (are_ints es)) [
  | inl ints ↦ places_are es ints ∙ ap (λ zs. option_map (λ ds. Data.sequence (values_of ds)) (read_each any_data zs)) (same_Some (placed 0 es) xs (sym (rw ints) ∙ h))
  | inr not ↦ absurd (let e : None ≡ Some xs = sym (rw not) ∙ h in cc)
]
any_list t xs w h = absurd cc
