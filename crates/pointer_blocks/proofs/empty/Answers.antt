use mathlib.Core.Path.{sym, ◌∙◌}
use Prim.Native.Nat.{◌+◌, ◌*◌, ◌-◌}
use native.Mathlib.Omega.{arith}
use borrow.Author.Rules.{rules}
use Rattle.blocks.proofs.Putting.{put_whole}
use Rattle.pointer_blocks.proofs.Putting.{emptied_block}
use Rattle.pointer_blocks.proofs.empty.Goals as goal

pub returns : goal.returns
returns c =
    let p = c.args.p.now in
    let o = c.offset-offset.result in
    let bytes = c.bytes.result.now in
    let copied =
    c.copy_block.ensures
    ∙ put_whole bytes c.args.room.now (rw c.bytes.ensures.bytes (c.requires ∙ sym c.offset-offset.ensures.whole))
    ∙ c.bytes.ensures.bytes in
    emptied_block p c.copy_block.new.out c.fill.new.self o (o + 8 * c.count.result - o) copied
    c.offset-offset.ensures.whole c.offset-offset.ensures.inside c.offset-offset.ensures.offset
    (omega arith) (search rules)
