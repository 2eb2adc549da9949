use Rattle.qs_data.proofs.Common.{◌++◌, [], Some, ap, ◌∙◌, tree_of, value_in}
use Rattle.qs_data.proofs.read.keys.either.Goals as goal

pub returns-in-Some-Some : goal.returns-in-Some-Some
returns-in-Some-Some c =
    let a = c.in-Some-Some.field-0-0 in
    let both = ap (λ x. value_in x ++ value_in c.args.b) c.in-Some-Some.is-0 ∙ ap (λ x. value_in (Some a) ++ value_in x) c.in-Some-Some.is-1 in
    (tree_of a.now, tree_of c.in-Some-Some.field-0-1.now, [], both)
