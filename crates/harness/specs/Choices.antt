-- A half-done erase by a choice of its bytes. Assumes nothing.
use Rattle.std.specs.Prelude.{Bool, cond, not, List, [], ◌∷◌, ℕ, zero, suc, ◌+◌, ◌-◌, ◌*◌, ◌/◌, ◌%◌, eqb, leb, ltb, length}
use Rattle.std.specs.Int.Bits.{bit_xor}
use Rattle.rules.specs.Cuts.{half_done}
use Rattle.rules.specs.declared.Step.TheVariants.{Erase}
use Rattle.harness.specs.declared.tearing.Choice.{Choice}
use Rattle.harness.specs.declared.tearing.Choice.TheVariants.{Lowest, Highest, Alone, AllBut, Every, Seeded}

-- a bit of byte i by a seed, without a pattern
unfoldable pub mixed : ℕ → ℕ → ℕ
mixed seed i =
    let sum = (seed % 4294967296 * 2654435761 + i % 4294967296) % 4294967296 in
    let product = bit_xor sum (sum / 65536) % 4294967296 * 2246822519 % 4294967296 in
    bit_xor product (product / 8192) % 2

-- of an erase of so many bytes, whether byte i is wiped
unfoldable pub wipes : Choice → ℕ → ℕ → Bool
wipes (Lowest n) size i = ltb i n
wipes (Highest n) size i = leb (size - n) i
wipes (Alone j) size i = eqb i j
wipes (AllBut j) size i = not (eqb i j)
wipes (Every j) size i = eqb (i % 2) j
wipes (Seeded seed) size i = eqb (mixed seed i) 1

-- the same of n bytes, from byte i on
unfoldable pub choices : Choice → ℕ → ℕ → ℕ → List Bool
choices c size i zero = []
choices c size i (suc n) = wipes c size i ∷ choices c size (suc i) n

-- that erase, half done, where its bytes are inside the image, else nothing
unfoldable pub torn_inside : ℕ → ℕ → Choice → List ℕ → List ℕ
torn_inside a size c img =
    cond (leb (a + size) (length img)) (half_done size (choices c size 0 size) (Erase a ∷ []) img) img
