use Rattle.qs_tree.proofs.Common.{◌≡◌, ◌∙◌, ap, arith, cond, count_by, count_ones, take, count_by-le-length, sum_by-append, length-take-le, ones-mask_l, length-chunk, chunk, take-add}
use Rattle.qs_tree.proofs.escape.search.class.count.Goals as goal

pub overflow_add-count : goal.overflow_add-count
overflow_add-count g c =
    let p = g.C.Class.contains c.args.class in
    let d = c.args.bytes.now in
    let l = c.loop-at in
    let v = chunk l.at 32 d in
    let ones : count_ones c.mask.result ≡ count_by p v = ap count_ones c.mask.ensures ∙ ones-mask_l p v in
    omega (arith, ones, count_by-le-length p v, length-chunk l.at 32 d, count_by-le-length p (take l.at d), length-take-le l.at d)

pub loop-at-preserved : goal.loop-at-preserved
loop-at-preserved g c =
    let p = g.C.Class.contains c.args.class in
    let d = c.args.bytes.now in
    let l = c.loop-at in
    let v = chunk l.at 32 d in
    let ones : count_ones c.mask.result ≡ count_by p v = ap count_ones c.mask.ensures ∙ ones-mask_l p v in
    record {
      within = omega arith;
      counted = omega (arith, ones, l.invariant.counted, ap (count_by p) (take-add l.at 32 d), sum_by-append (λ x. cond (p x) 1 0) (take l.at d) v);
    }
