-- Bytes of a flash: little-endian fields, blocks of 4,096 bytes, names up to a zero byte. Assumes nothing.
use Rattle.std.specs.Prelude.{Bool, cond, List, [], ◌∷◌, ℕ, zero, suc, ◌+◌, ◌*◌, ◌/◌, ◌%◌, ◌<◌, eqb, take, drop, get_or}

-- every element is a byte
abbrev pub Bytes : List ℕ → Type 0
Bytes bs = (i : ℕ) → get_or bs i 0 < 256

-- "All fields are little-endian": the number that bytes hold, lowest byte first
unfoldable pub little_endian : List ℕ → ℕ
little_endian [] = 0
little_endian (b ∷ bs) = b + 256 * little_endian bs

-- the n lowest bytes of a number, lowest first
unfoldable pub bytes_of : ℕ → ℕ → List ℕ
bytes_of zero v = []
bytes_of (suc n) v = v % 256 ∷ bytes_of n (v / 256)

-- the field of n bytes at an offset
unfoldable pub field : ℕ → ℕ → List ℕ → ℕ
field offset n bs = little_endian (take n (drop offset bs))

-- the length of a table and of a pointer block, and the unit of every partition
abbrev pub block_size : ℕ
block_size = 4096

-- the 4,096 bytes at an address of an image
unfoldable pub block : List ℕ → ℕ → List ℕ
block img address = take block_size (drop address img)

-- an erased byte
abbrev pub erased_byte : ℕ
erased_byte = 0xFF

-- the bytes before the first zero byte
unfoldable pub up_to_zero : List ℕ → List ℕ
up_to_zero [] = []
up_to_zero (b ∷ bs) = cond (eqb b 0) [] (b ∷ up_to_zero bs)

unfoldable pub multiple : ℕ → ℕ → Bool
multiple m n = eqb (n % m) 0
