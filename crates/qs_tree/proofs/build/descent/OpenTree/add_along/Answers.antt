use Rattle.qs_tree.proofs.Common.{◌≡◌, ◌≤◌, ◌<◌, ◌+◌, ◌∷◌, length, drop, take, sym, ap, ◌∙◌, arith, length-take-le, option_and_then, add, add_below, built_tree, is_push, leaf_of, path_of, parsed_segment_of_key, put_all_back, whole_tree}
use Rattle.qs_tree.specs.declared.scan.pair.Pair as code
use Rattle.qs_tree.proofs.lemmas.build.Descending.{resumes, put_all, goes_on, added}
use Rattle.qs_tree.proofs.build.descent.OpenTree.add_along.Goals as goal

pub loop-pair-init : goal.loop-pair-init
loop-pair-init c =
    let pair = c.args.pair.now in
    let old = c.args.self.now in
    let new = c.close_to.new.self in
    let shared = c.shared-level in
    let frames = c.in_ok-close_to.ensures.frames in
    let size : length new.frames.items ≡ shared.result = ap length frames ∙ length-take-le shared.result old.frames.items shared.ensures.most in
    record {
      way = rw size at (resumes (is_push pair.manner) (leaf_of pair.leaf) new.frames.items (built_tree new.node) (whole_tree old) pair.path
          (c.in_ok-close_to.ensures.same ∙ put_all old.frames.items (built_tree old.node)) (rw frames shared.ensures.same));
      count = shared.ensures.within;
    }

pub returns-then-branch : goal.returns-then-branch
returns-then-branch c =
    let done = rw c.if-branch.true at c.in_ok-add_near.ensures.added in
    added _ c.loop-pair.self.frames.items _ c.loop-pair.invariant.way (built_tree c.add_near.new.node) done

pub loop-pair-preserved : goal.loop-pair-preserved
loop-pair-preserved c =
    let level = c.loop-pair.level in
    let old = c.loop-pair.pair in
    let pair = c.take_key-key.new.self in
    let key = c.take_key-key.result in
    let frames = c.loop-pair.self.frames.items in
    let kept = rw c.if-branch.false at c.in_ok-add_near.ensures.added in
    let below = c.in_ok-add_near.ensures.more c.if-branch.false in
    let keys : drop level old.path ≡ key ∷ drop (level + 1) pair.path = ap (λ (p : code.Pair). drop level p.path) (sym kept.pair) ∙ c.take_key-key.ensures.key in
    let rest = add (path_of (drop (level + 1) pair.path)) (is_push old.manner) (leaf_of old.leaf) in
    let expected = add (path_of c.args.pair.now.path) (is_push c.args.pair.now.manner) (leaf_of c.args.pair.now.leaf) (whole_tree c.args.self.now) in
    let way : expected ≡ option_and_then (put_all_back frames) (add_below (parsed_segment_of_key key) rest (built_tree c.add_near.new.node)) = rw kept.node (rw keys at c.loop-pair.invariant.way) in
    record {
      way = rw (c.in_ok-push.ensures.items, c.take_key-key.ensures.manner ∙ ap (λ (p : code.Pair). p.manner) kept.pair, c.take_key-key.ensures.leaf ∙ ap (λ (p : code.Pair). p.leaf) kept.pair)
          (goes_on expected frames (parsed_segment_of_key key) rest (built_tree c.add_near.new.node) way c.in_ok-frame.frame (built_tree c.«open».new.node) c.in_ok-frame.ensures);
      count = omega (arith, below, c.take_key-key.ensures.len);
    }
