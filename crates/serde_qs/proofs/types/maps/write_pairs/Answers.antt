use Rattle.std.proofs.Common.{List, Ok, Err, map, string_bytes, subst}
use Rattle.std.specs.declared.string.String.{String}
use Rattle.std.specs.declared.alloc.Global.{Global}
use Rattle.qs_spec.specs.Data.{pairs_of}
use Rattle.qs_data.specs.write.Parts.{WritesPart, data_part, pairs_part, under}
use Rattle.qs_data.proofs.lemmas.write.Parts.{PartContinues, part_exit}
use Rattle.serde_qs.specs.Maps.{entry_data}
use Rattle.serde_qs.proofs.PartsWritten.{pair_ends_early, pair_goes_on, pairs_end}
use Rattle.serde_qs.proofs.types.maps.write_pairs.Goals as goal

pub loop-key-preserved : goal.loop-key-preserved
loop-key-preserved g c =
    let f = entry_data g.T.Serialize.datum in
    let l = c.loop-key in
    let a = c.args.writer.now in
    let b = c.write_under.new.writer in
    let x = g.T.Serialize.datum c.in-Some.value.now in
    let whole = pairs_part (pairs_of (map f c.args.values.now.entries)) in
    let P : List (String Global × g.row.T.Denot) → Type 0 = λ es. PartContinues a l.writer (pairs_part (pairs_of (map f es))) whole in
    pair_goes_on a l.writer (string_bytes c.in-Some.key.now) x (map f c.next.new.self) whole (subst P c.in-Some.ensures.steps l.invariant) b
    (subst (λ n. WritesPart (Ok tt) l.writer b (under n (data_part x))) c.as_bytes.ensures.value c.in_ok-write_under.ensures)

pub returns-in_err-write_under : goal.returns-in_err-write_under
returns-in_err-write_under g c =
    let f = entry_data g.T.Serialize.datum in
    let l = c.loop-key in
    let a = c.args.writer.now in
    let b = c.write_under.new.writer in
    let e = c.in_err-write_under.field-0.0 in
    let x = g.T.Serialize.datum c.in-Some.value.now in
    let whole = pairs_part (pairs_of (map f c.args.values.now.entries)) in
    let P : List (String Global × g.row.T.Denot) → Type 0 = λ es. PartContinues a l.writer (pairs_part (pairs_of (map f es))) whole in
    part_exit _ e a b whole c.from_residual.ensures.1
    (pair_ends_early a l.writer (string_bytes c.in-Some.key.now) x (map f c.next.new.self) whole (subst P c.in-Some.ensures.steps l.invariant) b e
    (subst (λ n. WritesPart (Err e) l.writer b (under n (data_part x))) c.as_bytes.ensures.value c.in_err-write_under.ensures))

pub returns : goal.returns
returns g c =
    let f = entry_data g.T.Serialize.datum in
    let l = c.loop-key in
    let a = c.args.writer.now in
    let whole = pairs_part (pairs_of (map f c.args.values.now.entries)) in
    let P : List (String Global × g.row.T.Denot) → Type 0 = λ es. PartContinues a l.writer (pairs_part (pairs_of (map f es))) whole in
    pairs_end a l.writer whole (subst P c.in-None.ensures.steps.0 l.invariant)
