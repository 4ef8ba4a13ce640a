-- What the values of the book stand for in document 01's words, and the change that a book takes. Assumes nothing.
use Rattle.std.specs.Prelude.{Bool, true, false, cond, ◌&&◌, List, map, ℕ, leb, length}
use Rattle.rules.specs.Lists.{same}
use Rattle.rules.specs.Answers.{Answer, refused, given}
use Rattle.rules.specs.Table.{entry_count, entries}
use Rattle.rules.specs.declared.Setting.{Setting}
use Rattle.rules.specs.Readers.{slot_row}
use Rattle.rules.specs.Commands.{Command, enable, disable, rename, create, delete, repair, without_row}
use Rattle.rules.specs.Book.{Reading, lowered, changed}
use Rattle.walks.specs.Entries.{most_entries}
use Rattle.book_orders.specs.Orders.{slots_of}
use Rattle.book_entries.specs.Tables.{has_slot, has_row}
use Rattle.book.specs.declared.Book.{Book}

-- ---- readings

unfoldable pub reading_of : Book → Reading
reading_of b = record { table = b.table; boot = slots_of b.order }

-- the reading that was given, or refused 1, 2, 3, 50, 51 or 5
unfoldable pub read_as : Answer Book → Answer Reading
read_as (refused why) = refused why
read_as (given b) = given (reading_of b)

unfoldable pub same_reading : Reading → Reading → Bool
same_reading a b = same a.table b.table && same a.boot b.boot

unfoldable pub same_answer : Answer Reading → Reading → Bool
same_answer (refused why) b = false
same_answer (given a) b = same_reading a b

-- ---- the change that a book takes

-- the change can be made: the order has room for a slot more, the table has the slot or a row for one. So it is where the
-- command started
unfoldable pub takes : Command → Reading → Bool
takes (enable k) r = leb (length r.boot) most_entries
takes (disable k) r = true
takes (rename k n) r = has_slot r.table k
takes (create n size) r = has_row (entry_count r.table) size
takes (delete k) r = has_slot r.table k
takes repair r = true

-- the documents' change where it can be made, else none
unfoldable pub taken : Setting → List ℕ → Command → Reading → Reading
taken s img c r = cond (takes c r) (changed s img c r) r

-- that of a delete
unfoldable pub deleted : ℕ → Reading → Reading
deleted k r =
    cond (has_slot r.table k)
    (record { table = without_row r.table (slot_row (entries r.table) k); boot = map (lowered k) r.boot }) r
