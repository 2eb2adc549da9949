use Rattle.serde_qs.proofs.ListsMade.{list_made}
use Rattle.serde_qs.proofs.types.delimited.DelimitedSerialize.to_data.Goals as goal

pub returns-clause-exact : goal.returns-clause-exact
returns-clause-exact g c =
    list_made g.T.Item.in_range g.T.Item.printed c.delimiter.result g.D.Delimiter.delimiter c.as_slice.result.now c.args.self.now.items.items
    c.delimiter.ensures c.as_slice.ensures.value c.serialize.result
    c.serialize.ensures.valid c.serialize.ensures.exact
