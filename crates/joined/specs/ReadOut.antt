-- A flash read by the code, as its caller sees it: the table part, and the boot order in a lent row. Assumes nothing.
use Rattle.std.specs.Prelude.{◌≡◌, List, ℕ, ◌≤◌, length, take}
use Rattle.rules.specs.Answers.{Answer, given, ◌>>=◌}
use Rattle.rules.specs.declared.Setting.{Setting}
use Rattle.rules.specs.Readers.{order_list, row_after, table_part}
use Rattle.rules.specs.Book.{Reading}
use Rattle.order_lists.specs.Answers.{count_of}

-- the part that `reading::table_read` returned, the answer of `reading::order_list`, the row lent to it, and that row
-- afterwards
pub record ReadOut : Type 0 where
  pub part : List ℕ
  pub answer : Answer ℕ
  pub row : List ℕ
  pub row_left : List ℕ

-- they are as the contracts of the two readers say, on this flash
pub record ReadFrom (s : Setting) (img : List ℕ) (x : ReadOut) : Type 0 where
  pub part : x.part ≡ table_part s img
  pub answer : x.answer ≡ count_of (order_list s img (length x.row))
  pub written : x.row_left ≡ row_after (order_list s img (length x.row)) x.row

-- the reading that the caller has then: that part, and as many slot numbers from the front of the row as were answered
unfoldable pub seen : ReadOut → Answer Reading
seen x = x.answer >>= λ n. given (record { table = x.part; boot = take n x.row_left })

-- whoever reads this flash, with a row that has room for the order, has this reading
unfoldable pub Answers : Setting → List ℕ → Reading → Type 0
Answers s img r = (x : ReadOut) → ReadFrom s img x → length r.boot ≤ length x.row → seen x ≡ given r
