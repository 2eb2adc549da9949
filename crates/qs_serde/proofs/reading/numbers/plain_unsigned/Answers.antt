use Rattle.std.proofs.Common.{◌≤◌, ◌-◌, ◌^◌, arith}
use Rattle.qs_data.proofs.lemmas.read.Numbers.{unsigned_ok}
use Rattle.qs_serde.specs.Nodes.{node_tree}
use Rattle.qs_serde.proofs.Borrowed.{unsigned_read}
use Rattle.qs_serde.proofs.reading.numbers.plain_unsigned.Goals as goal

pub returns-in-Ok : goal.returns-in-Ok
returns-in-Ok c reject_duplicates =
    let b = c.in_ok-plain_text.field-0.now in
    let n = c.in-Ok.number in
    let h = c.in-Ok.ensures.value.0 in
    let is = h.1 in
    let lt = h.0.1 in
    let le : n ≤ 2 ^ 64 - 1 = omega (arith, is, lt) in
    unsigned_read reject_duplicates (node_tree c.args.node) b n (c.in_ok-plain_text.ensures.given reject_duplicates) (unsigned_ok 64 b n h.0.0 h.1 le)
