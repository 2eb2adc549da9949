use Rattle.std.proofs.Common.{◌∙◌, ap, string_bytes}
use Rattle.qs_data.specs.data.Views.{data_of}
use Rattle.serde_qs.specs.Maps.{values_by_text, pair_onto}
use Rattle.serde_qs.proofs.Levels.{data_of_text}
use Rattle.serde_qs.proofs.PairsPut.{pair_put}
use Rattle.serde_qs.proofs.types.maps.with_pair.Goals as goal

pub returns-in_ok-insert-in-Text : goal.returns-in_ok-insert-in-Text
returns-in_ok-insert-in-Text g c =
    let m = g.T.Deserialize.table.meaning in
    let value = g.T.Deserialize.table.value in
    ap (λ k. pair_onto m (values_by_text value c.args.values) (data_of k) (data_of c.args.datum)) c.in-Text.is
    ∙ ap (λ x. pair_onto m (values_by_text value c.args.values) x (data_of c.args.datum)) (data_of_text c.in-Text.key)
    ∙ pair_put m value c.args.values c.insert.new.self (string_bytes c.in-Text.key) c.in_ok-value-in-Text.value (data_of c.args.datum)
    c.in_ok-value-in-Text.ensures.exact c.in_ok-insert-in-Text.ensures.updates
