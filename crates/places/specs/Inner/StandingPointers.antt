-- What code that walks the places of a pointer block asks of it. Assumes nothing.
use Rattle.std.specs.Prelude.{◌≡◌, true, List, ℕ, length}
use Rattle.rules.specs.Bytes.{block_size}
use Rattle.rules.specs.Pointers.{pointers_stand}

-- a whole pointer block that stands
pub record StandingPointers (p : List ℕ) : Type 0 where
  pub whole : length p ≡ block_size
  pub stands : pointers_stand p ≡ true
