use mathlib.Core.Path.{◌≡◌}
use lib.ListN.{drop}
use Rattle.rules.specs.Table.{starts}
use Rattle.rules.specs.Pointers.{places, order}
use Rattle.boot_order.proofs.BootOrder.{in_front, MetFrom}
use Rattle.boot_order.proofs.write_order.Given as goal

-- the order by the places above is in front of the row
abbrev pub invariant-loop-k : goal.invariant-loop-k
invariant-loop-k l =
    MetFrom (starts l.t) l.p l.k l.at
    × (l.row ≡ in_front (order (starts l.t) (drop l.k (places l.p))) l.initial.row)
