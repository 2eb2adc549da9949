use Rattle.std.proofs.lemmas.List.{take_rest}
use Rattle.qs_data.proofs.lemmas.write.Puts.{put_step}
use Rattle.qs_serde.proofs.calls.write.put.Goals as goal

pub loop-rest-preserved : goal.loop-rest-preserved
loop-rest-preserved g c =
    let rest = c.loop-rest.rest.now in
    let next = put_step c.args.bytes.now rest _ c.in-Ok.count _ _ _ c.loop-rest.invariant.left c.loop-rest.invariant.rest_is c.in-Ok.ensures.bound
    c.loop-rest.invariant.taken c.in-Ok.ensures.bytes (take_rest rest c.in-Ok.count) in
    record { left = next.0; rest_is = next.1; taken = next.2; same = c.loop-rest.invariant.same }
