use Rattle.qs_tree.proofs.Common.{arith, ◌==◌, w8, bitmask_splat, length-chunk, chunk}
use Rattle.qs_tree.proofs.escape.search.escapes.ByteClass.mask.Goals as goal

pub returns : goal.returns
returns c = bitmask_splat w8 (λ a b. a == b) (chunk c.args.at 32 c.args.bytes.now) 32 c.args.self.0 (length-chunk c.args.at 32 c.args.bytes.now c.requires) (omega arith)
