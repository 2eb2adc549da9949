use Rattle.qs_data.proofs.Common.{◌≡◌, [], ◌∷◌, ◌++◌, map, refl, ap, sym, ◌∙◌, option_map, arith, common_steps, any_data, read_each, items_left, list_begun, data_of}
use Rattle.qs_spec.specs.Data as d
use Rattle.qs_data.proofs.lemmas.read.Steps.{before-front}
use Rattle.qs_data.proofs.read.nested.PartialList.add.Goals as goal

pub returns-clause-ok : goal.returns-clause-ok
returns-clause-ok c =
    let ws = map data_of c.args.self.now.values.items in
    let x = data_of c.args.value in
    let rest = read_each any_data (items_left c.args.self.now) in
    let pushed : map data_of c.push.new.self.items ≡ ws ++ x ∷ [] = grind (arith, common_steps) in
    record {
      value = ap (option_map (λ ds. d.Data.sequence (d.values_of ds))) (before-front ws x rest) ∙ ap (λ ys. list_begun ys rest) (sym pushed);
      text = refl;
      size = refl;
    }
