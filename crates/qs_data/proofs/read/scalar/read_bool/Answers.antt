use Rattle.qs_data.proofs.Common.{◌≡◌, ◌∙◌, ap, true, Some, option_map, boolean_data, tree_of, data_of, given_text}
use Rattle.qs_spec.specs.Data as d
use Rattle.qs_data.proofs.lemmas.read.Scalars.{scalar_gives}
use Rattle.qs_data.proofs.read.scalar.read_bool.Goals as goal

pub returns-in-Some-clause-gives : goal.returns-in-Some-clause-gives
returns-in-Some-clause-gives c =
    let t = tree_of c.args.value.now in
    let b = c.in-Some.bytes.now in
    let h : given_text c.args.reader.reject_duplicates t ≡ Some (Some b) = c.in_ok-bytes.ensures.gives ∙ ap (λ o. Some (option_map (λ x. x.now) o)) c.in-Some.is in
    scalar_gives data_of c.args.reader.reject_duplicates (Some (d.boolean true)) boolean_data t b c.bool_data.result h c.bool_data.ensures.gives
