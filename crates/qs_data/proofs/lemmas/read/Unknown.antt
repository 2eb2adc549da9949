-- Keys that are fields' names, one after the other.
use Rattle.qs_data.proofs.Common.{◌≡◌, ℕ, ◌+◌, Bool, true, false, ◌&&◌, slice_get, Some, None, refl, ap, ◌∙◌, ParsedSegment, segment_text, Fields, is_field_name, Tree, Entries, keys_are_names, entry_list, when, entries_after}
use Rattle.qs_data.proofs.lemmas.read.Entries.{after_some}
use Rattle.qs_data.proofs.lemmas.read.Errors.{and_left}

-- what passes a test, and what doesn't
pub passes : (test : Bool) → when test ≡ Some tt → test ≡ true
passes true h = refl
passes false h = absurd cc

pub fails : (test : Bool) → when test ≡ None → test ≡ false
fails true h = absurd cc
fails false h = refl

module _ (fs : Fields) (es : Entries) (i : ℕ) (x : ParsedSegment × Tree) (here : slice_get (entry_list es) i ≡ Some x) where
  abbrev rest : Bool
  rest = keys_are_names fs (entries_after (i + 1) es)

  pub name_more : is_field_name (segment_text x.0.segment) fs ≡ true → keys_are_names fs (entries_after i es) ≡ rest
  name_more is = ap (keys_are_names fs) (after_some i es x here) ∙ ap (λ b. b && rest) is

  pub name_fails : is_field_name (segment_text x.0.segment) fs ≡ false → keys_are_names fs (entries_after i es) ≡ false
  name_fails not = ap (keys_are_names fs) (after_some i es x here) ∙ and_left (is_field_name (segment_text x.0.segment) fs) rest not
