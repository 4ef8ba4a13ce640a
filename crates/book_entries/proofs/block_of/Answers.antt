-- `block_of` is the lent block. Assumes nothing.
use Rattle.book_entries.proofs.Blocks.{block_put}
use Rattle.book_entries.proofs.block_of.Goals as goal

pub returns : goal.returns
returns c =
    block_put c.no_block-block.ensures c.requires
    c.put_bytes.ensures
