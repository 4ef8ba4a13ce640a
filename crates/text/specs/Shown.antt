-- How the listing shows a byte of a name and a number. Assumes nothing.
use Rattle.std.specs.Prelude.{cond, ◌&&◌, List, [], ◌∷◌, ◌++◌, ℕ, zero, suc, ◌+◌, ◌/◌, ◌%◌, leb, ltb}

-- "bytes outside 0x21-0x7E as `?`"
unfoldable pub shown : ℕ → ℕ
shown b = cond (leb 0x21 b && leb b 0x7E) b 0x3F

-- the decimal digits of a number, at most n of them, with no zero in front
unfoldable pub digits : ℕ → ℕ → List ℕ
digits zero v = []
digits (suc n) v = cond (ltb v 10) ((0x30 + v) ∷ []) (digits n (v / 10) ++ ((0x30 + v % 10) ∷ []))

-- a number of 64 bits in decimal: it has at most 20 digits
unfoldable pub decimal : ℕ → List ℕ
decimal v = digits 20 v
