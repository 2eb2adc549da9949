-- A list of whole numbers comes back from its one text.
use Rattle.std.proofs.Common.{◌≡◌, ℕ, Bool, true, List, [], ◌∷◌, ◌++◌, map, Option, Some, ap, ◌∙◌, refl}
use Rattle.std.proofs.lemmas.List.Elements.{All-nil, All-cons, All-head, All-tail}
use Rattle.std.proofs.lemmas.Str.{IsUtf8-append, IsUtf8-encode, is_utf8-from_IsUtf8}
use Rattle.std.specs.Char.{encode_utf8}
use Rattle.std.specs.List.{All, list_all}
use Rattle.std.specs.Str.{IsUtf8}
use Rattle.qs_spec.specs.Data.{Data}
use Rattle.qs_spec.specs.Data.Data.{text}
use Rattle.qs_spec.specs.Fits.{fits}
use Rattle.qs_spec.specs.Plain.{is_plain}
use Rattle.qs_spec.specs.Shape.{Shape}
use Rattle.qs_spec.specs.Same.{Same}
use Rattle.serde_qs.specs.Delimited.{NumberComesBack, NumbersComeBack, is_number_delimiter, list_data}
use Rattle.serde_qs.specs.Items.{each_after, joined, list_in}
use Rattle.serde_qs.specs.internal.Booleans.{both_hold}
use Rattle.serde_qs.specs.internal.Fitting.{back_where, holds, itself}
use Rattle.serde_qs.specs.internal.NumberLists.{list_back, number_delimiter}

module _ {A V : Type 0} (in_range : A → Bool) (meaning : List ℕ → Option V) (printed : A → List ℕ) (value : A → V) (items : NumbersComeBack in_range meaning printed value)
    (delimiter : ℕ) (free : is_number_delimiter delimiter ≡ true) where
  abbrev Back : A → Type 0
  Back x = NumberComesBack meaning printed value delimiter x

  each_back : (xs : List A) → list_all in_range xs ≡ true → All Back xs
  each_back [] h = All-nil Back
  each_back (x ∷ xs) h =
      let parts = both_hold (in_range x) (list_all in_range xs) h in
      All-cons Back x xs (items delimiter x free parts.0) (each_back xs parts.1)

  text_comes_back : (xs : List A) (e : Data) → list_all in_range xs ≡ true → Same (text (joined delimiter (map printed xs))) e → list_in meaning delimiter e ≡ Some (map value xs)
  text_comes_back xs _ h Same.text = list_back meaning printed value delimiter xs (number_delimiter delimiter free).is_scalar (each_back xs h)

  each_text : (xs : List A) → All Back xs → IsUtf8 (each_after (encode_utf8 delimiter) (map printed xs))
  each_text [] h = ([], (refl, refl))
  each_text (x ∷ xs) h =
      let rest = each_after (encode_utf8 delimiter) (map printed xs) in
      let later = IsUtf8-append (printed x) rest (All-head Back x xs h).piece.is_text (each_text xs (All-tail Back x xs h)) in
      IsUtf8-append (encode_utf8 delimiter) (printed x ++ rest) (IsUtf8-encode delimiter (number_delimiter delimiter free).is_scalar) later

  joined_text : (xs : List A) → All Back xs → IsUtf8 (joined delimiter (map printed xs))
  joined_text [] h = ([], (refl, refl))
  joined_text (x ∷ xs) h =
      IsUtf8-append (printed x) (each_after (encode_utf8 delimiter) (map printed xs)) (All-head Back x xs h).piece.is_text (each_text xs (All-tail Back x xs h))

  pub list_comes_back : (is_form : Bool) (xs : List A) (e : Data) → is_plain is_form (list_data in_range printed delimiter xs) ≡ true → Same (list_data in_range printed delimiter xs) e
      → list_in meaning delimiter e ≡ Some (map value xs)
  list_comes_back is_form xs e h p =
      back_where is_form (list_all in_range xs) (text (joined delimiter (map printed xs))) e (list_in meaning delimiter e) (Some (map value xs)) (text_comes_back xs e) h p

  pub list_fits : (is_form : Bool) (xs : List A) → is_plain is_form (list_data in_range printed delimiter xs) ≡ true → fits Shape.text (list_data in_range printed delimiter xs) ≡ true
  list_fits is_form xs h =
      let t = joined delimiter (map printed xs) in
      let valid = holds is_form (list_all in_range xs) (text t) h in
      ap (fits Shape.text) (itself (list_all in_range xs) (text t) valid) ∙ is_utf8-from_IsUtf8 t (joined_text xs (each_back xs valid))
