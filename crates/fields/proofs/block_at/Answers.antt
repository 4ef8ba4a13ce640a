-- `fields::block_at` meets its contract: the part that it lends is the block. Assumes nothing.
use native.Mathlib.Omega.{arith}
use native.Mathlib.Nat.{add-sub_cancel_left}
use lib.ListN.{drop, length-drop}
use lib.Seq.{length-take-le}
use Rattle.rules.specs.Bytes.{block, block_size}
use Rattle.fields.proofs.block_at.Goals as goal

pub returns : goal.returns
unfolding block
returns c =
    let a = c.args in
    let e = add-sub_cancel_left a.at block_size in
    (rw e, rw e (length-take-le block_size (drop a.at a.image.now) (rw length-drop (omega arith))))
