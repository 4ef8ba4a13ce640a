-- The free place of a pointer block, and a block with it. Assumes nothing.
use Rattle.std.specs.Prelude.{◌≡◌, List, ℕ}
use Rattle.rules.specs.Pointers.{places, all_ones}
use Rattle.walks.specs.Last.{last_from}
use Rattle.places.specs.Inner.StandingPointers.{StandingPointers}

-- the lowest place such that it and all above are erased; the count of places where the last is not erased
unfoldable pub free_from : List ℕ → ℕ
free_from p = last_from all_ones (places p)

-- a pointer block that stands, with its free place
pub record HasFree (p : List ℕ) (free : ℕ) : Type 0 where
  pub block : StandingPointers p
  pub lowest : free ≡ free_from p
