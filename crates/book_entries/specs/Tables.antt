-- What a table by value has, and the new name that it takes. Assumes nothing.
use Rattle.std.specs.Prelude.{Bool, ◌&&◌, List, [], ◌∷◌, ℕ, leb, ltb, replicate}
use Rattle.rules.specs.Bytes.{block_size}
use Rattle.rules.specs.Table.{entry_count, entries}
use Rattle.rules.specs.Readers.{slot_there}
use Rattle.rules.specs.Commands.{size_right}
use Rattle.walks.specs.Entries.{most_entries}

-- the new name of every rename and of every create, "SOLVER_2027_JUL"
abbrev pub new_name : List ℕ
new_name =
    0x53 ∷ 0x4F ∷ 0x4C ∷ 0x56 ∷ 0x45 ∷ 0x52 ∷ 0x5F ∷ 0x32 ∷ 0x30 ∷ 0x32 ∷ 0x37 ∷ 0x5F ∷ 0x4A ∷ 0x55 ∷ 0x4C ∷ []

-- a block with nothing in it yet
unfoldable pub no_block : List ℕ
no_block = replicate block_size 0

-- the table has such a slot, among no more entries than there is room for
unfoldable pub has_slot : List ℕ → ℕ → Bool
has_slot t k = leb (entry_count t) most_entries && slot_there (entries t) k

-- of so many entries a row is left, and the length of a new slot is right
unfoldable pub has_row : ℕ → ℕ → Bool
has_row n size = ltb n most_entries && size_right size
