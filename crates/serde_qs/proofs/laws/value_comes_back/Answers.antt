use Rattle.qs_data.proofs.lemmas.read.ReadBack.{in_order}
use Rattle.serde_qs.specs.internal.OwnTables.{own_back, own_fit}
use Rattle.serde_qs.proofs.laws.value_comes_back.Goals as goal

pub returns : goal.returns
returns g c = λ config es plain o.
    let t = g.T.Deserialize.table in
    let datum = g.T.Serialize.datum in
    let x = c.args._value.now in
    let same = g.met.T.RoundTrip.same_datum in
    let b = in_order config t.shape (datum x) es t.distinct (record { plain = plain.plain; fits = own_fit t datum same config.is_form x plain.plain; whole = plain.whole }) o in
    record {
      tree = b.tree;
      datum = b.answer;
      has_tree = b.is_tree;
      is_read = b.reads;
      is_meant = own_back t datum same config.is_form x b.answer plain.plain b.same;
    }
