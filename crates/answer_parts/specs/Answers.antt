-- Parts of an answer: numbers, each after a space. Assumes nothing.
use Rattle.std.specs.Prelude.{List, [], ◌∷◌, ◌++◌, ℕ}
use Rattle.text.specs.Shown.{decimal}

unfoldable pub spaced : ℕ → List ℕ
spaced n = 0x20 ∷ decimal n

unfoldable pub spaced_row : List ℕ → List ℕ
spaced_row [] = []
spaced_row (n ∷ ns) = spaced n ++ spaced_row ns
