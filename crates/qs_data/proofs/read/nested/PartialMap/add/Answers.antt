use Rattle.qs_data.proofs.Common.{◌≡◌, [], ◌∷◌, ◌++◌, map, refl, ap, sym, ◌∙◌, option_map, arith, common_steps, any_data, read_pairs, KeyShape, entries_left, map_begun, data_of, pair_of}
use Rattle.qs_spec.specs.Data as d
use Rattle.qs_data.proofs.lemmas.read.Steps.{before-front}
use Rattle.qs_data.proofs.read.nested.PartialMap.add.Goals as goal

pub returns-clause-ok : goal.returns-clause-ok
returns-clause-ok c =
    let ws = map pair_of c.args.self.now.pairs.items in
    let x : d.Data × d.Data = (data_of c.args.self.now.key, data_of c.args.value) in
    let rest = read_pairs KeyShape.text any_data (entries_left c.args.self.now) in
    let pushed : map pair_of c.push.new.self.items ≡ ws ++ x ∷ [] = grind (arith, common_steps) in
    record {
      value = ap (option_map (λ ps. d.Data.mapping (d.pairs_of ps))) (before-front ws x rest) ∙ ap (λ ys. map_begun ys rest) (sym pushed);
      text = refl;
      size = refl;
    }
