use Rattle.qs_data.proofs.Common.{◌≡◌, drop, member_names_differ, members_in}
use Rattle.qs_data.proofs.data.plain.few_names_differ.Given as goal

abbrev pub invariant-loop-i : goal.invariant-loop-i
invariant-loop-i l = member_names_differ (members_in l.members) ≡ member_names_differ (members_in (drop l.i l.members))
