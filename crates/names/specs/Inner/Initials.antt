-- The first bytes of the six names. Assumes nothing.
use Rattle.std.specs.Prelude.{List, [], ◌∷◌, ℕ}

-- B, F, S and C
unfoldable pub initials : List ℕ
initials = 66 ∷ 70 ∷ 83 ∷ 67 ∷ []
