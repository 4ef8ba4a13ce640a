-- `deleted` is the book without a slot, where its table has the slot. Assumes nothing.
use mathlib.Core.Path.{sym}
use Rattle.walks.proofs.Joined.{failed, passed}
use Rattle.book_orders.specs.Orders.{kept}
use Rattle.book_entries.specs.Tables.{has_slot}
use Rattle.book.specs.Kept.{reading_of, deleted}
use mathlib.Core.Path.{ap}
use mathlib.Core.Bool.{not}
use Rattle.book.proofs.deleted.Goals as goal

pub returns : goal.returns
unfolding deleted reading_of kept
returns c =
    rw (
      c.with_order.ensures,
      passed c.has_slot.ensures (ap not c.if-not-has_slot.false),
      c.changed.ensures,
      c.without_slot.ensures,
    )

pub returns-then-not-has_slot : goal.returns-then-not-has_slot
unfolding deleted reading_of
returns-then-not-has_slot c = sym (rw (failed c.has_slot.ensures (ap not c.if-not-has_slot.true)))

pub without_slot-requires : goal.without_slot-requires
without_slot-requires c = passed c.has_slot.ensures (ap not c.if-not-has_slot.false)
