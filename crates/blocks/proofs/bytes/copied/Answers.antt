-- `copied` is the lent block. Assumes nothing.
use mathlib.Core.Path.{◌∙◌}
use Rattle.blocks.proofs.Putting.{copied_block}
use Rattle.blocks.proofs.bytes.copied.Goals as goal

pub returns : goal.returns
returns c =
    c.copy_block.ensures ∙ copied_block c.args.block.now c.erased_block-b.result c.requires
    c.erased_block-b.ensures
