-- `changed` changes the slots that are meant. Assumes nothing.
use Rattle.book_orders.specs.Orders.{slots_of}
use Rattle.book_orders.proofs.Orders.{room_for, order_changed}
use Rattle.book_orders.proofs.changed.Goals as goal

pub returns : goal.returns
unfolding slots_of
returns c =
    rw (← c.slots.ensures.0)
    (order_changed (room_for c.no_slots-row.ensures) c.slots.result.now c.args.change c.slots.ensures.1
    c.put_all_kept-count.ensures)
