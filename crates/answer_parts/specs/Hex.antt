-- Bytes as pairs of hexadecimal digits, the higher first, in lower case. Assumes nothing.
use Rattle.std.specs.Prelude.{Bool, cond, ◌&&◌, List, [], ◌∷◌, ◌++◌, ℕ, ◌+◌, ◌-◌, ◌*◌, ◌/◌, ◌%◌, eqb, leb, ltb, length, get_or}
use Rattle.rules.specs.Lists.{all}

-- ---- bytes shown

-- the digit of a value below 16
unfoldable pub hex_digit : ℕ → ℕ
hex_digit v = cond (ltb v 10) (0x30 + v) (0x61 + (v - 10))

unfoldable pub pair : ℕ → List ℕ
pair b = hex_digit (b / 16) ∷ hex_digit (b % 16) ∷ []

unfoldable pub hex : List ℕ → List ℕ
hex [] = []
hex (b ∷ bs) = pair b ++ hex bs

-- ---- bytes read

-- the value of a digit; 16 for any other byte
unfoldable pub hex_value : ℕ → ℕ
hex_value b = cond (leb 0x30 b && leb b 0x39) (b - 0x30) (cond (leb 0x61 b && leb b 0x66) (b - 0x61 + 10) 16)

abbrev pub is_hex_digit : ℕ → Bool
is_hex_digit b = ltb (hex_value b) 16

-- "HEX is lower-case pairs, at least one"
unfoldable pub is_bytes : List ℕ → Bool
is_bytes w = ltb 0 (length w) && eqb (length w % 2) 0 && all is_hex_digit w

-- the byte of a pair; 0 past the end
unfoldable pub byte_at : List ℕ → ℕ → ℕ
byte_at w i =
    cond (leb (length w / 2) i) 0 (16 * (hex_value (get_or w (2 * i) 0) % 16) + hex_value (get_or w (2 * i + 1) 0) % 16)
