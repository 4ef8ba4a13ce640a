use Rattle.std.proofs.Common.{arith}
use Rattle.pointer_blocks.proofs.OrderPacked.{other_left, same_left}
use Rattle.pointer_blocks.proofs.others.Goals.{then-other-slot, else-other-slot}
use Rattle.pointer_blocks.proofs.others.Goals as goal

pub loop-other-preserved : goal.loop-other-preserved
loop-other-preserved c =
    let a = c.args in
    let i = c.loop-other.other-index in
    elim c.if-other-slot.branch [
      | then-other-slot w ↦
          let left = other_left a.slot.0 a.order.now i (omega arith) w.if-other-slot.true in
          (omega (arith, w.count-is), grind (arith, left, w.count-is, c.loop-other.invariant))
      | else-other-slot w ↦
          let left = same_left a.slot.0 a.order.now i (omega arith) w.if-other-slot.false in
          (omega (arith, w.count-is), grind (arith, left, w.count-is, c.loop-other.invariant))
    ]
