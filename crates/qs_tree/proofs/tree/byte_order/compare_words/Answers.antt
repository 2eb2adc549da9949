use Rattle.qs_tree.proofs.lemmas.tree.ByteOrder.{as_numbers}
use Rattle.qs_tree.proofs.tree.byte_order.compare_words.Goals as goal

pub returns : goal.returns
returns c = rw (c.cmp.ensures, c.word.ensures, c.word-2.ensures) (as_numbers 8 0 c.args.left.now c.args.right.now c.requires.left c.requires.right c.type_inv.left c.type_inv.right)
