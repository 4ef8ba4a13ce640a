-- `put_all_kept` puts what becomes of each slot: after i turns the first i slots are done. Assumes nothing.
use Rattle.book_orders.proofs.Orders.{none_kept, kept_more, kept_all}
use Rattle.book_orders.proofs.put_all_kept.Goals as goal

pub loop-slot-init : goal.loop-slot-init
loop-slot-init c = none_kept _

pub loop-slot-preserved : goal.loop-slot-preserved
loop-slot-preserved c = kept_more _ _ _ c.loop-slot.invariant c.loop-slot-test.true c.put_kept-end.ensures

pub returns : goal.returns
returns c = kept_all _ _ _ c.loop-slot.invariant c.loop-slot-test.false
