-- Bytes shown in hexadecimal are read back as those bytes. Assumes nothing.
use mathlib.Core.Path.{◌≡◌, refl}
use mathlib.Core.List.{List, [], ◌∷◌}
use Prim.Native.Nat.{ℕ, zero, suc, ◌+◌, ◌-◌, ◌*◌, ◌/◌, ◌%◌, ◌<◌}
use native.Mathlib.Omega.{arith}
use lib.Dec.{ltb}
use lib.ListN.{length, get_or}
use borrow.Author.Tests.{lt-leb, ltb-true, ltb-false}
use Rattle.rules.specs.Bytes.{Bytes}
use Rattle.rules.proofs.Lists.Tests.{by_cases}
use Rattle.answer_parts.specs.Hex.{hex_digit, pair, hex, hex_value, byte_at}
use Rattle.answer_parts.proofs.HexDigits.{value_decimal, value_letter}

value_of_digit : (v : ℕ) → v < 16 → hex_value (hex_digit v) ≡ v
unfolding hex_digit
value_of_digit v h = by_cases (ltb v 10)
    (λ t. rw (t, value_decimal (0x30 + v) (omega arith) (omega (arith, ltb-true v 10 t))) (omega arith))
    (λ t. rw (t, value_letter (0x61 + (v - 10)) (omega arith) (omega arith)) (omega (arith, ltb-false v 10 t)))

higher_digit : (bs : List ℕ) (i : ℕ) → i < length bs → get_or (hex bs) (2 * i) 0 ≡ hex_digit (get_or bs i 0 / 16)
unfolding hex pair
higher_digit [] i h = absurd (omega arith)
higher_digit (b ∷ bs) zero h = refl
higher_digit (b ∷ bs) (suc i) h =
    let twice : 2 * suc i ≡ suc (suc (2 * i)) = omega arith in rw twice (higher_digit bs i (omega arith))

lower_digit : (bs : List ℕ) (i : ℕ) → i < length bs → get_or (hex bs) (2 * i + 1) 0 ≡ hex_digit (get_or bs i 0 % 16)
unfolding hex pair
lower_digit [] i h = absurd (omega arith)
lower_digit (b ∷ bs) zero h = refl
lower_digit (b ∷ bs) (suc i) h =
    let twice : 2 * suc i + 1 ≡ suc (suc (2 * i + 1)) = omega arith in rw twice (lower_digit bs i (omega arith))

hex-length : (bs : List ℕ) → length (hex bs) ≡ 2 * length bs
unfolding hex pair
hex-length [] = refl
hex-length (b ∷ bs) = omega (arith, hex-length bs)

pub read_back : (bs : List ℕ) → Bytes bs → (i : ℕ) → i < length bs → byte_at (hex bs) i ≡ get_or bs i 0
unfolding byte_at
read_back bs small i h =
    rw (
      lt-leb (length (hex bs) / 2) i (omega (arith, hex-length bs)),
      higher_digit bs i h,
      lower_digit bs i h,
      value_of_digit (get_or bs i 0 / 16) (omega (arith, small i)),
      value_of_digit (get_or bs i 0 % 16) (omega arith),
    )
    (omega (arith, small i))
