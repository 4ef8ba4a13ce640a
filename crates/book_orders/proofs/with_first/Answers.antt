-- `with_first` puts a slot before the others; the row has room for it. Assumes nothing.
use Rattle.std.proofs.Common.{arith}
use Rattle.book_orders.specs.Orders.{slots_of, kept}
use Rattle.book_orders.proofs.Orders.{room_for, order_with_first}
use Rattle.book_orders.proofs.with_first.Goals as goal

pub returns : goal.returns
unfolding slots_of kept
returns c =
    rw (← c.slots-slots.ensures.0)
    (order_with_first (room_for c.no_slots-row.ensures) c.slots-slots.result.now c.args.slot.0 (omega arith)
    c.put_slot-at.ensures c.put_all_kept-count.ensures)
