use Rattle.qs_tree.proofs.Common.{◌≡◌, ◌<◌, ◌+◌, ◌∙◌, suc, length, drop, Some, sym, ap, arith, slice_get-get_or, is_ne, segment_of_key}
use Rattle.qs_tree.proofs.lemmas.build.Descending.{same_key, one_key_more}
use Rattle.qs_tree.proofs.build.descent.OpenTree.shared.Goals as goal

pub loop-level-preserved : goal.loop-level-preserved
loop-level-preserved c =
    let frames = c.args.self.now.frames in
    let level = c.loop-level.level in
    let frame = c.index.result.now in
    let key = c.key.result.now in
    let in_range : level < length frames.items = omega (arith, c.loop-level-test.true, c.len.ensures, frames.ok) in
    let within : level < length c.args.path.now = omega (arith, c.if-level-len.true, c.len-in-loop-level.ensures) in
    let same = same_key (segment_of_key frame.key) (segment_of_key key) (sym (c.is_ne.ensures ∙ ap is_ne c.compare.ensures) ∙ c.if-is_ne.false) in
    let next : level + 1 ≡ suc level = omega arith in
    record {
      keys = rw next (one_key_more frames.items c.args.path.now level frame key (drop (level + 1) c.args.path.now)
          (slice_get-get_or frames.items level frame in_range ∙ ap Some (sym c.index.ensures)) c.key.ensures.key same c.loop-level.invariant.keys);
      most = omega (arith, in_range);
      within = omega (arith, within);
    }
