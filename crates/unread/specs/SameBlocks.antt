-- Two images that are equal in the four blocks, wherever else they differ, and what enable reads beside these. Assumes
-- nothing.
use Rattle.std.specs.Prelude.{◌≡◌, true, List, ℕ, length, get_or}
use Rattle.rules.specs.Bytes.{block}
use Rattle.rules.specs.Answers.{given}
use Rattle.rules.specs.declared.Setting.{Setting}
use Rattle.rules.specs.Table.{entries, starts, cpb0_of, cpb1_of}
use Rattle.rules.specs.Copies.{table_read}
use Rattle.rules.specs.Readers.{slot_there}
use Rattle.rules.specs.Commands.{Command, enable}

-- as long as each other, and the same 4,096 bytes at the start of both tables and, by the table read, of both pointer
-- blocks
pub record SameBlocks (s : Setting) (img img' : List ℕ) : Type 0 where
  pub same_length : length img ≡ length img'
  pub spt0 : block img s.spt0 ≡ block img' s.spt0
  pub spt1 : block img s.spt1 ≡ block img' s.spt1
  pub cpb0 : (at : ℕ)
      → table_read s img ≡ given at
      → block img (cpb0_of (block img at)) ≡ block img' (cpb0_of (block img at))
  pub cpb1 : (at : ℕ)
      → table_read s img ≡ given at
      → block img (cpb1_of (block img at)) ≡ block img' (cpb1_of (block img at))

-- the same first 4,096 bytes of the slot that enable is told, where the table read has that slot; the other commands read
-- nothing of a slot
unfoldable pub SameSlot : Setting → List ℕ → List ℕ → Command → Type 0
SameSlot s img img' c = (k at : ℕ)
    → c ≡ enable k
    → table_read s img ≡ given at
    → slot_there (entries (block img at)) k ≡ true
    → block img (get_or (starts (block img at)) k 0) ≡ block img' (get_or (starts (block img at)) k 0)
