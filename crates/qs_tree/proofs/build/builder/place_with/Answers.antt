use Rattle.qs_tree.proofs.Common.{◌≡◌, ◌-◌, ◌<◌, length, get_or, Greater, Equal, Less, sym, ap, arith, subst, against, key_cmp, total-law, IsGap}
use Rattle.std.specs.Prelude.{IfErr}
use Rattle.qs_tree.proofs.lemmas.tree.Places.{key_at, before_middle, hit}
use Rattle.qs_tree.proofs.build.builder.place_with.Goals as goal

pub returns-in-Greater-clause-placed : goal.returns-in-Greater-clause-placed
returns-in-Greater-clause-placed g c =
    let key = c.args.key.now in
    let es = c.args.entries.now in
    let last = length es - 1 in
    let in_range : last < length es = omega (arith, c.if-len-eq0.false) in
    let more : against key_cmp key es last ≡ Greater = rw (key_at es last (get_or es last c.index-entries-len.result) key in_range (ap (get_or es last) c.index-entries-len.is)) (sym c.in-Greater.ensures.order) in
    record {
      in_range = omega arith;
      before = λ j lt. before_middle total-law key es c.requires last in_range more j (omega (arith, lt, in_range));
      after = λ j le lt. absurd (omega (arith, le, lt));
    }

pub returns-in-Equal-clause-placed : goal.returns-in-Equal-clause-placed
returns-in-Equal-clause-placed g c =
    let key = c.args.key.now in
    let es = c.args.entries.now in
    let last = length es - 1 in
    let in_range : last < length es = omega (arith, c.if-len-eq0.false) in
    let same : against key_cmp key es last ≡ Equal = rw (key_at es last (get_or es last c.index-entries-len.result) key in_range (ap (get_or es last) c.index-entries-len.is)) (sym c.in-Equal.ensures.order) in
    hit total-law key es c.requires last in_range same

pub returns-in-Less-clause-after_all : goal.returns-in-Less-clause-after_all
returns-in-Less-clause-after_all g c = λ end.
    let key = c.args.key.now in
    let es = c.args.entries.now in
    let last = length es - 1 in
    let in_range : last < length es = omega (arith, c.if-len-eq0.false) in
    let less : against key_cmp key es last ≡ Less = rw (key_at es last (get_or es last c.index-entries-len.result) key in_range (ap (get_or es last) c.index-entries-len.is)) (sym c.in-Less.ensures.order) in
    let absent : IsGap key_cmp key es (length es) = subst (λ r. IfErr r (IsGap key_cmp key es)) end c.search.ensures.absent in
    let greater = absent.before last (omega (arith, in_range)) in
    absurd (cc)
