use Rattle.qs_tree.proofs.Common.{drop_of_length-le, ◌≤◌, [], ◌∷◌, length, drop, Some, sym, ap, ◌∙◌, length-append, arith, mapping, tree_of, is_push, leaf_of, path_of}
use Rattle.qs_tree.proofs.lemmas.Views.{tree_of-Map}
use Rattle.qs_tree.proofs.lemmas.build.Chains.{chain, alone, shorter}
use Rattle.qs_tree.proofs.build.add_to_value.chain_of.Goals as goal

pub keys-init : goal.keys-init
keys-init c =
    let pair = c.args.pair.now in
    record {
      made = alone (path_of (drop c.args.level pair.path)) (is_push pair.manner) (leaf_of pair.leaf) (tree_of c.in_ok-value.value) (rw c.take.ensures at c.in_ok-value.ensures.value);
      count = c.requires;
    }

pub keys-preserved : goal.keys-preserved
keys-preserved c =
    let key = c.pop_key-key.result in
    let rest = c.pop_key-key.new.self.path in
    let count : c.args.level ≤ length rest = omega (arith, c.keys-test.true, ap length c.pop_key-key.ensures, length-append rest (key ∷ [])) in
    let above = tree_of-Map c.in_ok-map.map ∙ ap mapping c.in_ok-map.ensures in
    record {
      made = c.keys.invariant.made
          ∙ ap Some (shorter c.args.level c.keys.pair.path rest key (tree_of c.keys.value) c.pop_key-key.ensures count ∙ ap (chain (path_of (drop c.args.level rest))) (sym above));
      count = count;
    }

pub returns : goal.returns
returns c =
    let keys = c.keys.pair.path in
    c.keys.invariant.made ∙ ap (λ l. Some (chain (path_of l) (tree_of c.keys.value))) (drop_of_length-le keys (omega (arith, c.keys-test.false)))
