use Rattle.qs_tree.proofs.Common.{◌≡◌, ◌+◌, ◌-◌, ◌/◌, ◌<◌, length, get_or, Less, Equal, Greater, sym, ap, arith, against, key_cmp, total-law}
use Rattle.qs_tree.proofs.lemmas.tree.Places.{key_at, before_middle, after_middle, hit, halved}
use Rattle.qs_tree.proofs.tree.map.search.Goals as goal

pub loop-low-preserved : goal.loop-low-preserved
loop-low-preserved g c =
    let middle = c.loop-low.low + (c.loop-low.high - c.loop-low.low) / 2 in
    let in_range : middle < length c.args.entries.now = omega arith in
    let more : against key_cmp c.args.key.now c.args.entries.now middle ≡ Greater = rw (key_at c.args.entries.now middle (get_or c.args.entries.now middle c.index-entries-middle.result) c.args.key.now in_range (ap (get_or c.args.entries.now middle) c.index-entries-middle.is)) (sym c.in-Greater.ensures.order) in
    let fewer = halved (c.loop-low.high - c.loop-low.low) (c.loop-low.high - (middle + 1)) (omega arith) (omega arith) in
    record {
      ordered = omega arith;
      within = omega arith;
      before = before_middle total-law c.args.key.now c.args.entries.now c.requires middle in_range more;
      after = c.loop-low.invariant.after;
      most = omega arith;
      first = λ none. absurd (omega arith);
      least = omega arith;
    }

pub loop-low-preserved-in-Less : goal.loop-low-preserved-in-Less
loop-low-preserved-in-Less g c =
    let middle = c.loop-low.low + (c.loop-low.high - c.loop-low.low) / 2 in
    let in_range : middle < length c.args.entries.now = omega arith in
    let less : against key_cmp c.args.key.now c.args.entries.now middle ≡ Less = rw (key_at c.args.entries.now middle (get_or c.args.entries.now middle c.index-entries-middle.result) c.args.key.now in_range (ap (get_or c.args.entries.now middle) c.index-entries-middle.is)) (sym c.in-Less.ensures.order) in
    let fewer = halved (c.loop-low.high - c.loop-low.low) (middle - c.loop-low.low) (omega arith) (omega arith) in
    record {
      ordered = omega arith;
      within = omega arith;
      before = c.loop-low.invariant.before;
      after = after_middle total-law c.args.key.now c.args.entries.now c.requires middle less;
      most = omega arith;
      first = λ none. absurd (omega arith);
      least = omega arith;
    }

pub returns-in-Equal-clause-found : goal.returns-in-Equal-clause-found
returns-in-Equal-clause-found g c =
    let middle = c.loop-low.low + (c.loop-low.high - c.loop-low.low) / 2 in
    let in_range : middle < length c.args.entries.now = omega arith in
    let same : against key_cmp c.args.key.now c.args.entries.now middle ≡ Equal = rw (key_at c.args.entries.now middle (get_or c.args.entries.now middle c.index-entries-middle.result) c.args.key.now in_range (ap (get_or c.args.entries.now middle) c.index-entries-middle.is)) (sym c.in-Equal.ensures.order) in
    hit total-law c.args.key.now c.args.entries.now c.requires middle in_range same

pub returns-in-Equal-clause-most : goal.returns-in-Equal-clause-most
returns-in-Equal-clause-most g c =
    let fewer = halved (c.loop-low.high - c.loop-low.low) 0 (omega arith) (omega arith) in
    omega arith

pub returns-clause-absent : goal.returns-clause-absent
returns-clause-absent g c =
    let ordered : c.loop-low.low ≡ c.loop-low.high = omega arith in
    record {
      in_range = omega arith;
      before = c.loop-low.invariant.before;
      after = λ j le lt. c.loop-low.invariant.after j (omega arith) lt;
    }
