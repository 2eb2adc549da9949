use Rattle.std.proofs.Common.{Err, Ok, subst}
use Rattle.qs_spec.specs.Data.{members_of}
use Rattle.qs_data.specs.write.Parts.{WritesPart, members_part, under}
use Rattle.qs_data.proofs.lemmas.write.Parts.{part_exit, part_stops_under, part_under}
use Rattle.serde_qs.specs.Records.{texts}
use Rattle.serde_qs.proofs.compound.round_trip.write_variant.Goals as goal

pub returns : goal.returns
returns g c =
    let names = texts c.args.names.now in
    let a = c.args.writer.now in
    let b = c.enter.new.self in
    let d = c.write_members.new.writer in
    let part = members_part (members_of (g.R.FieldReferences.own_members names c.args.fields)) in
    let fields = subst (λ ms. WritesPart (Ok tt) b d (members_part (members_of ms))) (g.met.R.FieldReferences.same names c.args.fields) c.in_ok-write_members.ensures.written in
    subst (λ n. WritesPart (Ok tt) a c.leave.new.self (under n part)) c.as_bytes.ensures.value
    (part_under c.as_bytes.result.now c.in_ok-len.len a b part c.in_ok-len.ensures.ok d c.leave.new.self fields c.leave.ensures)

pub returns-in_err-len : goal.returns-in_err-len
returns-in_err-len g c =
    let a = c.args.writer.now in
    let b = c.enter.new.self in
    let part = members_part (members_of (g.R.FieldReferences.own_members (texts c.args.names.now) c.args.fields)) in
    let e = c.in_err-len.field-0.0 in
    part_exit _ e a b (under c.args.name.now part) c.from_residual.ensures.1
    (subst (λ n. WritesPart (Err e) a b (under n part)) c.as_bytes.ensures.value (c.in_err-len.ensures.err part))

pub returns-in_err-write_members : goal.returns-in_err-write_members
returns-in_err-write_members g c =
    let names = texts c.args.names.now in
    let a = c.args.writer.now in
    let b = c.enter.new.self in
    let d = c.write_members.new.writer in
    let part = members_part (members_of (g.R.FieldReferences.own_members names c.args.fields)) in
    let e = c.in_err-write_members.field-0.0 in
    let fields = subst (λ ms. WritesPart (Err e) b d (members_part (members_of ms))) (g.met.R.FieldReferences.same names c.args.fields) c.in_err-write_members.ensures.written in
    part_exit _ e a d (under c.args.name.now part) c.from_residual-in_err-write_members.ensures.1
    (subst (λ n. WritesPart (Err e) a d (under n part)) c.as_bytes.ensures.value
    (part_stops_under c.as_bytes.result.now c.in_ok-len.len a b part c.in_ok-len.ensures.ok e d fields))
