-- `put_other` puts a slot, or nothing where it is the one left out. Assumes nothing.
use Rattle.text.proofs.Puts.{put_nothing}
use Rattle.book_orders.proofs.Orders.{left_out, not_left_out}
use Rattle.book_orders.proofs.put_other.Goals as goal

pub returns-then-absent-slot : goal.returns-then-absent-slot
returns-then-absent-slot c = rw (left_out _ _ c.if-absent-slot.true) (put_nothing _ _)

pub returns-else-absent-slot : goal.returns-else-absent-slot
returns-else-absent-slot c = rw (not_left_out _ _ c.if-absent-slot.false) c.put_slot.ensures
