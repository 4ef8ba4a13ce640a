-- `copy_block` puts a block at an offset, in two parts. Assumes nothing.
use Rattle.std.proofs.Common.{arith}
use Rattle.fields.proofs.Stored.{parts_put}
use Rattle.fields.proofs.stores.copy_block.Goals as goal

pub returns : goal.returns
returns c =
    parts_put c.args.at 2048 c.args.given.now c.args.out.now (omega (arith, c.requires.0)) (omega (arith, c.requires.1))
    (rw c.split_at.ensures.front at c.copy.ensures) (rw c.split_at.ensures.back at c.copy-2.ensures)
