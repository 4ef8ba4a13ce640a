use Rattle.rules.specs.Table.{starts}
use Rattle.boot_order.proofs.BootOrder.{MetFrom}
use Rattle.boot_order.proofs.order_length.Given as goal

abbrev pub invariant-loop-k : goal.invariant-loop-k
invariant-loop-k l = MetFrom (starts l.t) l.p l.k l.len
