use Rattle.std.proofs.Common.{subst}
use Rattle.qs_spec.specs.Data as d
use Rattle.qs_spec.specs.Data.{values_of}
use Rattle.qs_data.specs.write.Parts.{WritesPart, data_part}
use Rattle.serde_qs.proofs.compound.round_trip.write_tuple_variant.Goals as goal

pub returns : goal.returns
returns g c =
    let name = c.args.name.now in
    let made = c.write_made.ensures (d.tuple_variant name (values_of (g.R.ItemReferences.listed c.args.items))) c.tuple_variant.ensures.exact in
    subst (λ xs. WritesPart c.write_made.result c.args.writer.now c.write_made.new.writer (data_part (d.tuple_variant name (values_of xs)))) (g.met.R.ListedReferences.same c.args.items) made
