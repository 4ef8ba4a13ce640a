-- What only the contracts of inner functions cite: pointers packed into a pointer block. Assumes nothing.
use Rattle.std.specs.Prelude.{◌≡◌, List, ℕ, length}
use Rattle.rules.specs.Commands.{filled}

-- a pointer block with these pointers from the lowest place up, and how many
pub record Packed (p vs : List ℕ) (n : ℕ) (made : List ℕ) : Type 0 where
  pub block : made ≡ filled p vs
  pub count : n ≡ length vs
