use Rattle.std.proofs.Common.{◌≡◌, ◌<◌, ℕ, zero, suc, false, true, length, arith, refl}
use Rattle.std.proofs.lemmas.Bool.{false≢true}
use Rattle.serde_qs.specs.Maps.{entry_data}
use Rattle.serde_qs.proofs.PartsWritten.{empty_map, whole_map}
use Rattle.serde_qs.proofs.types.maps.BTreeMapStringSerialize.write_to.Goals as goal

positive : (n : ℕ) → (n ≡ 0 → false ≡ true) → 0 < n
positive zero h = absurd (false≢true (h refl))
positive (suc n) h = omega arith

pub returns-then-is_empty : goal.returns-then-is_empty
returns-then-is_empty g c =
    let m = c.args.self.now in
    let none : length m.entries ≡ 0 = c.if-is_empty.ensures.0 refl in
    record { written = empty_map (entry_data g.T.Serialize.datum) c.unit.result c.args.writer.now c.unit.new.self m.entries none c.unit.ensures }

pub returns : goal.returns
returns g c =
    let m = c.args.self.now in
    let some : 0 < length m.entries = positive (length m.entries) c.if-is_empty.ensures.1 in
    record { written = whole_map (entry_data g.T.Serialize.datum) c.write_pairs.result c.args.writer.now c.write_pairs.new.writer m.entries some c.write_pairs.ensures }
