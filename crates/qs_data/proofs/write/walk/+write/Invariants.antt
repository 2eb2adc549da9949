use Rattle.qs_data.proofs.Common.{Config, values_in, pairs_in, members_in, state_in, elements_part, pairs_part, members_part}
use Rattle.qs_data.proofs.lemmas.write.Wrote.{Continues}
use Rattle.qs_data.proofs.lemmas.write.Walk.{elements_left, pairs_left, members_left}
use Rattle.qs_data.proofs.write.walk.+write.Given as goal

abbrev pub invariant-write_elements-loop-place : goal.invariant-write_elements-loop-place
invariant-write_elements-loop-place g l =
    let view = state_in g.S.Sink.taken g.S.Sink.failed g.S.Sink.writer_name in
    (config : Config) → Continues config (view l.initial.stream) (view l.stream) l.initial.walk l.walk (elements_left l.item-items l.place) (elements_part 0 (values_in l.item-items))

abbrev pub invariant-write_pairs-loop-pair : goal.invariant-write_pairs-loop-pair
invariant-write_pairs-loop-pair g l =
    let view = state_in g.S.Sink.taken g.S.Sink.failed g.S.Sink.writer_name in
    (config : Config) → Continues config (view l.initial.stream) (view l.stream) l.initial.walk l.walk (pairs_left l.pair-items l.pair-index) (pairs_part (pairs_in l.pair-items))

abbrev pub invariant-write_members-loop-member : goal.invariant-write_members-loop-member
invariant-write_members-loop-member g l =
    let view = state_in g.S.Sink.taken g.S.Sink.failed g.S.Sink.writer_name in
    (config : Config) → Continues config (view l.initial.stream) (view l.stream) l.initial.walk l.walk (members_left l.member-items l.member-index) (members_part (members_in l.member-items))
