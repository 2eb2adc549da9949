use Rattle.std.proofs.Common.{◌≡◌, ◌<◌, length, sym, arith, vec_len}
use Rattle.std.proofs.lemmas.Bool.{eqb-false, eqb-true}
use Rattle.serde_qs.proofs.PartsWritten.{empty_list, whole_list}
use Rattle.serde_qs.proofs.types.lists.VecSerialize.write_to.Goals as goal

pub returns-then-is_empty : goal.returns-then-is_empty
returns-then-is_empty g c =
    let v = c.args.self.now in
    let none : length v.items ≡ 0 = omega (arith, v.ok.0, eqb-true (vec_len v) 0 (sym c.if-is_empty.ensures)) in
    record { written = empty_list g.T.Serialize.datum c.unit.result c.args.writer.now c.unit.new.self v.items none c.unit.ensures }

pub returns : goal.returns
returns g c =
    let v = c.args.self.now in
    let some : 0 < length v.items = omega (arith, v.ok.0, eqb-false (vec_len v) 0 (sym c.if-is_empty.ensures)) in
    record { written = whole_list g.T.Serialize.datum c.write_elements.result c.args.writer.now c.write_elements.new.writer v.items some c.write_elements.ensures }
