use Rattle.qs_tree.proofs.Common.{◌≡◌, ◌+◌, [], ◌∷◌, length, sym, ap, ◌∙◌, arith, length-append, option_and_then, built_tree, put_all_back}
use Rattle.qs_tree.proofs.lemmas.build.Descending.{put_lowest, front_left}
use Rattle.qs_tree.proofs.build.descent.OpenTree.close_to.Goals as goal

pub loop-alloc-preserved : goal.loop-alloc-preserved
loop-alloc-preserved c =
    let frames = c.pop.new.self.items in
    let frame = c.in-Some.frame in
    let all = c.loop-alloc.self.frames in
    let before = c.loop-alloc.invariant in
    let closed = put_lowest frames frame (built_tree c.loop-alloc.self.node) ∙ ap (option_and_then (put_all_back frames)) c.in_ok-close.ensures in
    let size : length all.items ≡ length frames + 1 = ap length c.in-Some.ensures.items ∙ length-append frames (frame ∷ []) in
    record {
      same = sym closed ∙ rw c.in-Some.ensures.items at before.same;
      frames = front_left frames c.args.self.now.frames.items frame (rw c.in-Some.ensures.items at before.frames);
      most = omega (arith, size, before.most);
      least = omega (arith, size, c.loop-alloc-test.true, c.len.ensures, all.ok);
      none = λ none. absurd (omega (arith, size, before.most, ap length none));
    }
