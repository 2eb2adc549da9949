use Rattle.std.proofs.Common.{map}
use Rattle.qs_data.specs.data.Views.{data_of}
use Rattle.serde_qs.specs.Items.{list_in}
use Rattle.serde_qs.specs.internal.OwnTables.{list_meaning, number_values}
use Rattle.serde_qs.proofs.NumbersKept.{in_table}
use Rattle.serde_qs.proofs.types.delimited.numbers_in.Goals as goal

pub returns : goal.returns
returns g c =
    let n = g.T.WholeNumber.numbers in
    let own = g.met.T.WholeNumber.are_own in
    let in_range = g.T.Item.in_range in
    let d = data_of c.args.datum in
    in_table (λ list. map g.T.Item.value list.items) (λ list. map n.value list.items) (map own.kept)
    (λ list. number_values n g.T.Item.value in_range g.T.Item.printed g.T.Item.meaning own list.items)
    (list_in g.T.Item.meaning c.args.delimiter d) (list_in n.meaning c.args.delimiter d) (list_meaning n g.T.Item.value in_range g.T.Item.printed g.T.Item.meaning own c.args.delimiter d)
    c.deserialize.result c.deserialize.ensures
