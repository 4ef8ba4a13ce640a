use mathlib.Core.Path.{◌≡◌, refl, ◌∙◌}
use mathlib.Core.List.{[], ◌∷◌}
use Prim.Native.Nat.{◌-◌}
use native.Mathlib.Omega.{arith}
use lib.ListN.{get_or, length-append}
use Rattle.rules.specs.Table.{starts}
use Rattle.pointer_blocks.proofs.OrderPacked.{put_from, none_put, left_out_turn, put_turn}
use Rattle.pointer_blocks.proofs.pack_without.Goals as goal

pub loop-i-init : goal.loop-i-init
loop-i-init c =
    let a = c.args in
    let none = none_put a.slot.0 (starts a.t.now) a.order.now in
    ((omega arith, c.empty.auto.room ∙ c.requires.room), (rw none c.empty.ensures, rw none refl))

pub loop-i-preserved-then-order-i : goal.loop-i-preserved-then-order-i
loop-i-preserved-then-order-i c =
    let a = c.args in
    let slots = starts a.t.now in
    let o = a.order.now in
    let i = c.loop-i.i in
    let us = put_from a.slot.0 slots o i in
    let (block, count) = c.loop-i.invariant.1 in
    let turn = put_turn a.slot.0 slots o i (omega arith) (omega arith) c.if-order-i.true in (
      (omega arith, c.put_pointer.ensures.length),
      (
        rw (turn, ← c.slot_start.ensures) (c.put_pointer.ensures.put us count block),
        rw (turn, length-append us (get_or slots (get_or o (i - 1) 0) 0 ∷ [])) (omega (arith, count)),
      ),
    )

pub loop-i-preserved : goal.loop-i-preserved
loop-i-preserved c =
    let a = c.args in
    let turn = left_out_turn a.slot.0 (starts a.t.now) a.order.now c.loop-i.i (omega arith)
    (omega arith) c.if-order-i.false in
    ((omega arith, c.loop-i.invariant.0.1), rw turn c.loop-i.invariant.1)

pub returns : goal.returns
returns c =
    let over : c.loop-i.i ≡ 0 = omega arith in
    record { block = rw over at c.loop-i.invariant.1.0; count = rw over at c.loop-i.invariant.1.1 }
