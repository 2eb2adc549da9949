use Rattle.qs_data.proofs.Common.{◌∙◌, ap, ◌||◌, ◌&&◌, ltb, length, ne_eqb, take_rest, or-false}
use Rattle.qs_data.proofs.lemmas.write.Puts.{put_step}
use Rattle.qs_data.proofs.write.sink.put_all.Goals as goal

pub loop-rest-preserved : goal.loop-rest-preserved
loop-rest-preserved g c =
    let rest = c.loop-rest.rest.now in
    let next = put_step c.args.bytes.now rest _ c.in-Ok.count _ _ _ c.loop-rest.invariant.left c.loop-rest.invariant.rest_is c.in-Ok.ensures.bound
    c.loop-rest.invariant.taken c.in-Ok.ensures.takes (take_rest rest c.in-Ok.count) in
    let before = g.S.Sink.failed c.loop-rest.sink in
    record {
      left = next.0;
      rest_is = next.1;
      taken = next.2;
      fine = c.in-Ok.ensures.fails
          ∙ ap (λ x. before || (x && ltb 0 (length rest))) (ne_eqb c.in-Ok.count 0 c.in-Ok.count-test.1)
          ∙ or-false before ∙ c.loop-rest.invariant.fine;
      same_writer = c.put.ensures.same_writer ∙ c.loop-rest.invariant.same_writer;
    }
