use Rattle.std.proofs.Common.{take}
use Rattle.text.specs.Put.{Put}
use Rattle.book_orders.specs.Orders.{kept}
use Rattle.book_orders.proofs.put_all_kept.Given as goal

abbrev pub invariant-loop-slot : goal.invariant-loop-slot
invariant-loop-slot l = Put l.initial.row l.initial.end (kept l.change (take l.slot-index l.slots)) l.row l.end
