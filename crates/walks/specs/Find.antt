-- The one search that code makes: the place of the first element that passes. Assumes nothing.
use Rattle.std.specs.Prelude.{Bool, cond, List, [], ◌∷◌, ℕ, suc}

-- the length where none passes
unfoldable pub find : {A : Type 0} → (A → Bool) → List A → ℕ
find f [] = 0
find f (x ∷ xs) = cond (f x) 0 (suc (find f xs))
