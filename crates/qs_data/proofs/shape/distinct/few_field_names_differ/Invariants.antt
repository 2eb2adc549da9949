use Rattle.qs_data.proofs.Common.{◌≡◌, drop, field_names_differ, fields_in}
use Rattle.qs_data.proofs.shape.distinct.few_field_names_differ.Given as goal

abbrev pub invariant-loop-i : goal.invariant-loop-i
invariant-loop-i l = field_names_differ (fields_in l.fields) ≡ field_names_differ (fields_in (drop l.i l.fields))
