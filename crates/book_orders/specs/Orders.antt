-- What an order by value stands for: the slots that are meant, and what becomes of them. Assumes nothing.
use Rattle.std.specs.Prelude.{List, map, ℕ, take, replicate}
use Rattle.rules.specs.Lists.{without}
use Rattle.rules.specs.Book.{lowered}
use Rattle.book_orders.specs.declared.Order.{Order}
use Rattle.book_orders.specs.declared.Change.{Change}
use Rattle.book_orders.specs.declared.Change.TheVariants.{Without, Lowered}

-- the slots that a row of an order has room for
abbrev pub room : ℕ
room = 128

-- a row with nothing in it yet
unfoldable pub no_slots : List ℕ
no_slots = replicate room 0

unfoldable pub slots_of : Order → List ℕ
slots_of o = take o.count o.row

-- what becomes of slots
unfoldable pub kept : Change → List ℕ → List ℕ
kept (Without k) slots = without k.0 slots
kept (Lowered g) slots = map (lowered g.0) slots
