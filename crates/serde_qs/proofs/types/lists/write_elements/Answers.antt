use Rattle.std.proofs.Common.{◌+◌, List, arith, drop, map, subst, sym, Ok, Err}
use Rattle.qs_spec.specs.Data.{values_of}
use Rattle.qs_data.specs.write.Parts.{WritesPart, data_part, element, elements_part}
use Rattle.qs_data.proofs.lemmas.write.Parts.{part_ends, part_ends_early, part_exit, part_goes_on}
use Rattle.qs_data.proofs.lemmas.write.Walk.{elements_end_by, elements_here_by}
use Rattle.serde_qs.proofs.types.lists.write_elements.Goals as goal

pub loop-place-preserved : goal.loop-place-preserved
loop-place-preserved g c =
    let l = c.loop-place in
    let t = g.T.Serialize.datum in
    let xs = c.deref-value-items.result.now in
    let x = c.value-item.result in
    let k = l.writer.config in
    part_goes_on c.args.writer.now l.writer (elements_part l.place (values_of (map t (drop l.place xs)))) (elements_part 0 (values_of (map t xs))) l.invariant c.write_element.new.writer
    (element l.place (data_part (t x))) (elements_part (l.place + 1) (values_of (map t (drop (l.place + 1) xs))))
    (λ path. sym (elements_here_by t k.max_depth k.array_format xs l.place x path (omega arith) c.value-item.is)) c.in_ok-write_element.ensures

pub returns : goal.returns
returns g c =
    let l = c.loop-place in
    let t = g.T.Serialize.datum in
    let xs = c.deref-value-items.result.now in
    let k = l.writer.config in
    let P : List g.row.T.Denot → Type 0 = λ ys. WritesPart (Ok tt) c.args.writer.now l.writer (elements_part 0 (values_of (map t ys))) in
    subst P c.deref-value-items.ensures.value
    (part_ends c.args.writer.now l.writer (elements_part l.place (values_of (map t (drop l.place xs)))) (elements_part 0 (values_of (map t xs))) l.invariant
    (λ path. sym (elements_end_by t k.max_depth k.array_format xs l.place path (omega arith))))

pub returns-in_err-write_element : goal.returns-in_err-write_element
returns-in_err-write_element g c =
    let l = c.loop-place in
    let t = g.T.Serialize.datum in
    let xs = c.deref-value-items.result.now in
    let x = c.value-item.result in
    let k = l.writer.config in
    let e = c.in_err-write_element.field-0.0 in
    let P : List g.row.T.Denot → Type 0 = λ ys. WritesPart (Err e) c.args.writer.now c.write_element.new.writer (elements_part 0 (values_of (map t ys))) in
    part_exit _ e c.args.writer.now c.write_element.new.writer (elements_part 0 (values_of (map t c.args.values.now.items))) c.from_residual.ensures.1
    (subst P c.deref-value-items.ensures.value
    (part_ends_early c.args.writer.now l.writer (elements_part l.place (values_of (map t (drop l.place xs)))) (elements_part 0 (values_of (map t xs))) l.invariant e c.write_element.new.writer
    (element l.place (data_part (t x))) (elements_part (l.place + 1) (values_of (map t (drop (l.place + 1) xs))))
    (λ path. sym (elements_here_by t k.max_depth k.array_format xs l.place x path (omega arith) c.value-item.is)) c.in_err-write_element.ensures))
