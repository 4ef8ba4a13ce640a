-- What is worked out of a table once: its entries, where the slots at the end begin, how many come before them. Assumes
-- nothing.
use Rattle.std.specs.Prelude.{◌≡◌, List, ℕ, length, take}
use Rattle.rules.specs.Table.{Entry, entry_count, entries, is_slot, slots}
use Rattle.walks.specs.Last.{last_from}
use Rattle.walks.specs.Entries.{HasEntries}

-- the lowest entry number from which on all counted entries are slots
unfoldable pub slots_from : List ℕ → ℕ
slots_from t = last_from is_slot (entries t)

-- how many slots come before an entry
unfoldable pub slots_before : List ℕ → ℕ → ℕ
slots_before t e = length (slots (take e (entries t)))

-- a whole table with this worked out
pub record HasRows (t : List ℕ) (es : List Entry) (from before : ℕ) : Type 0 where
  pub table : HasEntries t (entry_count t)
  pub counted : es ≡ entries t
  pub last : from ≡ slots_from t
  pub fewer : before ≡ slots_before t from
