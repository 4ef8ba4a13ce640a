-- The value of a place of a pointer block. Assumes nothing.
use Rattle.std.specs.Prelude.{List, ℕ, ◌+◌, ◌*◌}
use Rattle.rules.specs.Bytes.{field}
use Rattle.rules.specs.Pointers.{place_offset}

-- the value of a place, by its number
unfoldable pub place_value : List ℕ → ℕ → ℕ
place_value p k = field (place_offset p + 8 * k) 8 p
