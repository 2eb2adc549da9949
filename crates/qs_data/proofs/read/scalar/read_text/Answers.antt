use Rattle.qs_data.proofs.Common.{◌≡◌, ◌∙◌, ap, [], Some, option_map, text_data, tree_of, data_of, given_text}
use Rattle.qs_spec.specs.Data as d
use Rattle.qs_data.proofs.lemmas.read.Scalars.{scalar_gives}
use Rattle.qs_data.proofs.read.scalar.read_text.Goals as goal

pub returns-in-Some : goal.returns-in-Some
returns-in-Some c =
    let t = tree_of c.args.value.now in
    let b = c.in-Some.bytes.now in
    let h : given_text c.args.reader.reject_duplicates t ≡ Some (Some b) = c.in_ok-bytes.ensures.gives ∙ ap (λ o. Some (option_map (λ x. x.now) o)) c.in-Some.is in
    scalar_gives data_of c.args.reader.reject_duplicates (Some (d.text [])) text_data t b c.text_data.result h c.text_data.ensures
