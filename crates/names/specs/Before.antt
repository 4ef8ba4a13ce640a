-- Where a name, a word or a line ends: at the first byte of one value. Assumes nothing.
use Rattle.std.specs.Prelude.{cond, List, [], ◌∷◌, ℕ, eqb}

-- the bytes before the first that equals `stop`
unfoldable pub before : ℕ → List ℕ → List ℕ
before stop [] = []
before stop (b ∷ bs) = cond (eqb b stop) [] (b ∷ before stop bs)
