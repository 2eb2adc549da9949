use Rattle.qs_data.proofs.Common.{◌≡◌, ℕ, List, drop, is_member_name, member_names_differ, members_in}
use Rattle.qs_data.specs.data.internal.Texts.{holds_text}
use Rattle.qs_data.proofs.data.plain.many_names_differ.Given as goal

abbrev pub invariant-loop-i : goal.invariant-loop-i
invariant-loop-i l = (l.differ ≡ member_names_differ (members_in (drop l.i l.members))) × ((t : List ℕ) → holds_text l.names t ≡ is_member_name t (members_in (drop l.i l.members)))
