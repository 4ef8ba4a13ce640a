-- "Steps of the device": one byte programmed, one granule erased; the rewriting of a block. Assumes nothing.
use Rattle.std.specs.Prelude.{List, [], ◌∷◌, ◌++◌, ℕ, suc, ◌+◌, take, drop, get_or, set, replicate}
use Rattle.std.specs.Int.Bits.{bit_and}
use Rattle.rules.specs.Bytes.{erased_byte}
use Rattle.rules.specs.declared.Step.{Step}
use Rattle.rules.specs.declared.Step.TheVariants.{Program, Erase}

-- "new byte = old AND given"
unfoldable pub programmed : ℕ → ℕ → List ℕ → List ℕ
programmed a v img = set img a (bit_and (get_or img a 0) v)

-- n bytes 0xFF from an address on: an erase
unfoldable pub wiped : ℕ → ℕ → List ℕ → List ℕ
wiped a n img = take a img ++ (replicate n erased_byte ++ drop (a + n) img)

-- one step on the image, with this granule
unfoldable pub step : ℕ → Step → List ℕ → List ℕ
step g (Program a v) img = programmed a v img
step g (Erase a) img = wiped a g img

-- listed steps, one after the other
unfoldable pub steps : ℕ → List Step → List ℕ → List ℕ
steps g [] img = img
steps g (s ∷ ss) img = steps g ss (step g s img)

-- bytes programmed upward from an address
unfoldable pub programs : ℕ → List ℕ → List Step
programs a [] = []
programs a (b ∷ bs) = Program a b ∷ programs (suc a) bs

-- document 01's "rewriting" with document 02's No. 3: "first programs bytes 0 to 3 to zero, in that order"; "erase its
-- first granule, program bytes 4 to 4,095 upward, then 0 to 3"
unfoldable pub rewrite : ℕ → List ℕ → List Step
rewrite a b = programs a (replicate 4 0) ++ (Erase a ∷ (programs (a + 4) (drop 4 b) ++ programs a (take 4 b)))

-- the same block into both copies of a pair, copy 1 and then copy 0
unfoldable pub rewrite_pair : ℕ → ℕ → List ℕ → List Step
rewrite_pair a0 a1 b = rewrite a1 b ++ rewrite a0 b
