-- The one search from the end: the elements at the end of a list that all pass. Assumes nothing.
use Rattle.std.specs.Prelude.{Bool, List, [], ◌∷◌, ℕ}
use Rattle.rules.specs.Commands.{below}

-- the lowest number such that the element there and all after it pass; the length where the last does not
unfoldable pub last_from : {A : Type 0} → (A → Bool) → List A → ℕ
last_from f [] = 0
last_from f (x ∷ xs) = below (f x) (last_from f xs)
