use Rattle.serde_qs.proofs.traits.Serialize.write_to.Goals as goal

pub returns : goal.returns
returns g c = record { written = c.write_made.ensures (g.Self.Serialize.datum c.args.self.now) c.to_data.ensures.exact }
