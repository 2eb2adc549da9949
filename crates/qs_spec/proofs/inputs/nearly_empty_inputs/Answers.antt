use Rattle.std.proofs.Common.{refl, false, codes, []}
use Rattle.qs_spec.specs.Leaf.Leaf.{Null, NoValue}
use Rattle.qs_spec.specs.Tree.Tree.{leaf, uninitialized}
use Rattle.qs_spec.specs.Worked.{text_leaf, only}
use Rattle.qs_spec.proofs.TreeOf.{is_tree}
use Rattle.qs_spec.proofs.inputs.nearly_empty_inputs.Goals as goal

pub returns-clause-empty : goal.returns-clause-empty
returns-clause-empty c = is_tree false 5 [] (leaf NoValue) refl

pub returns-clause-ampersands : goal.returns-clause-ampersands
returns-clause-ampersands c = is_tree false 5 (codes "&&&") uninitialized refl

pub returns-clause-a_key : goal.returns-clause-a_key
returns-clause-a_key c = is_tree false 5 (codes "a") (only (codes "a") (leaf NoValue)) refl

pub returns-clause-no_value : goal.returns-clause-no_value
returns-clause-no_value c = is_tree false 5 (codes "a=") (only (codes "a") (leaf Null)) refl

pub returns-clause-no_key : goal.returns-clause-no_key
returns-clause-no_key c = is_tree false 5 (codes "=foo") (text_leaf (codes "foo")) refl
