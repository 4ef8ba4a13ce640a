-- Ranges that ascend: a test of each entry with the next, by which no two overlap. Assumes nothing.
use Rattle.std.specs.Prelude.{Bool, true, ◌&&◌, List, ℕ, zero, suc, get_or}
use Rattle.rules.specs.Table.{Entry, no_entry}
use Rattle.entry_tests.specs.Inner.Ranges.{ends_before}

-- each of the first k ranges ends before the next
unfoldable pub ascend : List Entry → ℕ → Bool
ascend es zero = true
ascend es (suc zero) = true
ascend es (suc (suc k)) = ends_before (get_or es k no_entry) (get_or es (suc k) no_entry) && ascend es (suc k)
