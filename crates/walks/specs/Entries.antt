-- An entry of a table by its number, and the test by which code looks for a slot. Assumes nothing.
use Rattle.std.specs.Prelude.{◌≡◌, Bool, ◌&&◌, List, ℕ, ◌+◌, ◌*◌, ◌≤◌, ◌<◌, eqb, length, drop}
use Rattle.rules.specs.Bytes.{block_size}
use Rattle.rules.specs.Table.{Entry, entry, is_slot}

-- the entries that a table has room for
abbrev pub most_entries : ℕ
most_entries = 127

-- a whole table, with room for so many entries
pub record HasEntries (t : List ℕ) (n : ℕ) : Type 0 where
  pub whole : length t ≡ block_size
  pub few : n ≤ most_entries

-- the entry of a number, counted or not
unfoldable pub entry_at : List ℕ → ℕ → Entry
entry_at t i = entry (drop (0x20 + 32 * i) t)

-- an application slot that starts at an address
unfoldable pub slot_from : ℕ → Entry → Bool
slot_from a e = eqb e.start a && is_slot e
