-- `read_book` answers the reading of the flash, refusals included. Assumes nothing.
use mathlib.Core.Path.{sym, ap, ◌∙◌}
use Rattle.std.proofs.lemmas.Result.{err_from_is_err_and}
use lib.ListN.{length}
use Rattle.book_orders.specs.Orders.{slots_of}
use Rattle.book.specs.Kept.{reading_of, read_as}
use Rattle.book_orders.proofs.Orders.{room_for}
use Rattle.book.proofs.ReadBack.{not_read, whole_table, was_read}
use Rattle.book.proofs.read_book.Goals as goal

pub block_of-table-requires : goal.block_of-table-requires
block_of-table-requires c =
    ap length c.table_read.ensures
    ∙ whole_table _ _ c.no_slots-row.result (room_for c.no_slots-row.ensures) _ (sym c.in_ok-count.was ∙ c.order_list.ensures.answer)

pub returns-in_err-count : goal.returns-in_err-count
unfolding read_as
returns-in_err-count c =
    let p = err_from_is_err_and c.from_residual.result c.from_residual.ensures.1 in
    rw (p.1, p.2)
    (not_read _ _ c.no_slots-row.result (room_for c.no_slots-row.ensures) _ (sym c.in_err-count.was ∙ c.order_list.ensures.answer))

pub returns : goal.returns
unfolding read_as reading_of slots_of
returns c =
    was_read _ _ c.no_slots-row.result (room_for c.no_slots-row.ensures) _ (sym c.in_ok-count.was ∙ c.order_list.ensures.answer) _ _
    (c.block_of-table.ensures ∙ c.table_read.ensures) c.order_list.ensures.written
