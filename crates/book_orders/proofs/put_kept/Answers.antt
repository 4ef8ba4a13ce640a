-- `put_kept` puts what becomes of a slot. Assumes nothing.
use Rattle.book_orders.specs.Orders.{kept}
use Rattle.book_orders.proofs.put_kept.Goals as goal

pub returns-in-Without : goal.returns-in-Without
unfolding kept
returns-in-Without c =
    rw c.in-Without.is c.put_other.ensures

pub returns-in-Lowered : goal.returns-in-Lowered
unfolding kept
returns-in-Lowered c =
    rw (c.in-Lowered.is, ← c.lowered.ensures) c.put_slot.ensures
