-- `put_name` is the table with the name in an entry. Assumes nothing.
use mathlib.Core.Path.{sym, ◌∙◌}
use native.Mathlib.Omega.{arith}
use Rattle.blocks.proofs.Putting.{put_whole, named_block}
use Rattle.blocks.proofs.tables.put_name.Goals as goal

pub returns : goal.returns
returns c =
    let a = c.args in
    c.copy-2.ensures
    ∙ rw (
      c.copy.ensures,
      c.copy_block.ensures,
      put_whole a.t.now a.room.now (c.requires.1.1 ∙ sym c.requires.0.0),
    )
    (named_block a.t.now a.name.now a.e.0 c.entry_offset-at.result c.requires.0.0
    (omega arith) c.requires.1.0
    c.entry_offset-at.ensures)
