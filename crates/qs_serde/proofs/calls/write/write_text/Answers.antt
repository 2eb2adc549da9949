use Rattle.std.proofs.Common.{subst}
use Rattle.std.specs.Prelude.{Ok}
use Rattle.qs_serde.specs.Halts.{IsFinish}
use Rattle.qs_serde.specs.Halts.{HasFailed}
use Rattle.qs_serde.proofs.Written.{are_visible, returned, were_written}
use Rattle.qs_serde.proofs.calls.write.write_text.Goals as goal

pub string_of-requires : goal.string_of-requires
string_of-requires g c = are_visible g.K.Settings.config c.into_text.result.items c.into_text.ensures.entries

pub returns : goal.returns
returns g c =
    let config = g.K.Settings.config in
    let failed = HasFailed c.serialize-made.new.out.position in
    let finish : IsFinish config failed c.serialize-made.result (Ok tt) = subst (λ k. IsFinish k failed c.serialize-made.result (Ok tt)) c.requires c.in_ok-finished.ensures in
    let written = were_written config failed _ c.serialize-made.result (Ok tt) finish c.serialize-made.ensures in
    returned config (g.T.Described.writes c.args.value.now) c.over-serializer.result.log.events c.serialize-made.new.out.log.events c.into_text.result.items c.string_of.result c.over-serializer.ensures
    written.1 (c.into_text.ensures.events written.0) c.into_text.ensures.entries c.string_of.ensures
