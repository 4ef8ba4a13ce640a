-- The 32-bit FNV-1a of some bytes. Assumes nothing.
use Rattle.std.specs.Prelude.{List, [], ◌∷◌, ℕ, ◌*◌, ◌%◌}
use Rattle.std.specs.Int.Bits.{bit_xor}

-- the sum with one byte more: "prime 16777619", in 32 bits
abbrev pub with_byte : ℕ → ℕ → ℕ
with_byte sum b = bit_xor sum b % 4294967296 * 16777619 % 4294967296

unfoldable pub sum_from : ℕ → List ℕ → ℕ
sum_from sum [] = sum
sum_from sum (b ∷ bs) = sum_from (with_byte sum b) bs

-- "basis 2166136261"
unfoldable pub fnv1a : List ℕ → ℕ
fnv1a bs = sum_from 2166136261 bs
