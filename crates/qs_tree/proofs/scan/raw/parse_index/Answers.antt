use Rattle.std.proofs.Common.{◌≡◌, ℕ, ◌==◌, List, true, length, ap, ◌∙◌}
use Rattle.qs_tree.proofs.lemmas.scan.Indexes.{index_parsed}
use Rattle.qs_tree.proofs.scan.raw.parse_index.Goals as goal

pub returns : goal.returns
returns c = c.parse_digits.ensures ∙ index_parsed c.args.raw.now (λ e. let empty : (length c.args.raw.now == 0) ≡ true = ap (λ (l : List ℕ). length l == 0) e in cc)
