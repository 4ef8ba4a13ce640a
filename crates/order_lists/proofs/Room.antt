-- An order has at most all slots of its table. Assumes nothing.
use mathlib.Core.List.{List}
use Prim.Native.Nat.{ℕ, ◌≤◌}
use lib.ListN.{length}
use Rattle.rules.specs.Table.{entries, slots, starts}
use Rattle.rules.specs.Pointers.{places}
use Rattle.rules.specs.Copies.{order_by}
use Rattle.boot_order.proofs.BootOrder.{order_fits}

pub order_at_most : (t p : List ℕ) → length (order_by t p) ≤ length (slots (entries t))
unfolding order_by starts
order_at_most t p = order_fits (entries t) (places p)
