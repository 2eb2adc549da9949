use Rattle.qs_data.proofs.Common.{◌≡◌, ℕ, List, drop, is_field_name, field_names_differ, fields_in}
use Rattle.qs_data.specs.data.internal.Texts.{holds_text}
use Rattle.qs_data.proofs.shape.distinct.many_field_names_differ.Given as goal

abbrev pub invariant-loop-i : goal.invariant-loop-i
invariant-loop-i l = (l.differ ≡ field_names_differ (fields_in (drop l.i l.fields))) × ((t : List ℕ) → holds_text l.names t ≡ is_field_name t (fields_in (drop l.i l.fields)))
