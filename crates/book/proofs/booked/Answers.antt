-- `booked` makes each command's change. Assumes nothing.
use Rattle.commands.specs.Begins.{command_of}
use Rattle.book_orders.specs.Orders.{kept}
use Rattle.book.proofs.Changes.{enabled, disabled, with_name, with_slot, without_slot, repaired}
use Rattle.book.proofs.booked.Goals as goal

pub returns-in-Enable : goal.returns-in-Enable
unfolding command_of
returns-in-Enable c =
    let a = c.args in
    rw (c.with_order.ensures, c.in-Enable.is)
    (enabled a.setting a.image.now a.book _ c.with_first.result c.with_first.ensures)

pub returns-in-Disable : goal.returns-in-Disable
unfolding command_of kept
returns-in-Disable c =
    let a = c.args in
    rw (c.with_order-in-Disable.ensures, c.in-Disable.is)
    (disabled a.setting a.image.now a.book _ c.changed.result c.changed.ensures)

pub returns-in-Rename : goal.returns-in-Rename
unfolding command_of
returns-in-Rename c =
    let a = c.args in
    rw (c.with_order-in-Rename.ensures, c.in-Rename.is)
    (with_name a.setting a.image.now a.book _ c.renamed.result c.renamed.ensures)

pub returns-in-Create : goal.returns-in-Create
unfolding command_of
returns-in-Create c =
    let a = c.args in
    rw (c.with_order-in-Create.ensures, c.in-Create.is)
    (with_slot a.setting a.image.now a.book _ c.with_new_slot.result c.with_new_slot.ensures)

pub returns-in-Delete : goal.returns-in-Delete
unfolding command_of
returns-in-Delete c =
    let a = c.args in
    rw c.in-Delete.is
    (without_slot a.setting a.image.now a.book _ c.deleted.result c.deleted.ensures)

pub returns-in-Repair : goal.returns-in-Repair
unfolding command_of
returns-in-Repair c =
    let a = c.args in
    rw c.in-Repair.is (repaired a.setting a.image.now a.book)
