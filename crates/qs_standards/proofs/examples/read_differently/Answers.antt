use Rattle.std.proofs.Common.{refl, false, codes}
use Rattle.qs_standards.proofs.OnBoth.{reads_both}
use Rattle.qs_spec.proofs.TreeOf.{no_tree}
use Rattle.qs_standards.proofs.examples.read_differently.Goals as goal

pub returns-clause-repeated : goal.returns-clause-repeated
returns-clause-repeated c = reads_both _ _ _ refl refl refl

pub returns-clause-one_index : goal.returns-clause-one_index
returns-clause-one_index c = reads_both _ _ _ refl refl refl

pub returns-clause-covered_escape : goal.returns-clause-covered_escape
returns-clause-covered_escape c = reads_both _ _ _ refl refl refl

pub returns-clause-covered_plus : goal.returns-clause-covered_plus
returns-clause-covered_plus c = reads_both _ _ _ refl refl refl

pub returns-clause-no_tree : goal.returns-clause-no_tree
returns-clause-no_tree c = no_tree false 0 (codes "=v&b") refl
