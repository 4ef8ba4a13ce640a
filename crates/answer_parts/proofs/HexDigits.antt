-- The value of a byte as a hexadecimal digit, range by range, and of one that is none. Assumes nothing.
use mathlib.Core.Path.{◌≡◌, refl}
use mathlib.Core.Bool.{Bool}
use Rattle.std.specs.List.{list_all}
use Rattle.std.proofs.lemmas.Bool.Decides.{nat_tests}
use Rattle.std.specs.Option.{unwrap_or}
use Rattle.std.specs.Prelude.{if◌then◌else◌, Some, None}
use Rattle.rules.specs.Lists.{all}
use mathlib.Core.List.{List, [], ◌∷◌}
use Prim.Native.Nat.{ℕ, ◌+◌, ◌-◌, ◌%◌, ◌≤◌}
use native.Mathlib.Omega.{arith}
use lib.Dec.{ltb}
use borrow.Author.Tests.{le-leb, lt-leb, ltb-true, ltb-false}
use Rattle.rules.proofs.Lists.Tests.{by_cases}
use Rattle.answer_parts.specs.Hex.{hex_value, is_hex_digit}

module _ (b : ℕ) where
  pub value_decimal : 0x30 ≤ b → b ≤ 0x39 → hex_value b ≡ b - 0x30
  unfolding hex_value
  value_decimal h k = simp (le-leb 0x30 b h, le-leb b 0x39 k)

  pub value_letter : 0x61 ≤ b → b ≤ 0x66 → hex_value b ≡ b - 0x61 + 10
  unfolding hex_value
  value_letter h k = simp (le-leb 0x30 b (omega arith), lt-leb b 0x39 (omega arith), le-leb 0x61 b h, le-leb b 0x66 k)

at_most : (b : ℕ) → hex_value b ≤ 16
unfolding hex_value
at_most b = grind (arith, nat_tests)

-- a byte that is no digit counts as 0 in a pair
pub digit_or_zero : (b : ℕ)
    → unwrap_or (if is_hex_digit b then Some (hex_value b) else None) 0 ≡ hex_value b % 16
digit_or_zero b = by_cases (ltb (hex_value b) 16)
    (λ t. rw t (omega (arith, ltb-true (hex_value b) 16 t)))
    (λ t. rw t (omega (arith, ltb-false (hex_value b) 16 t, at_most b)))

pub all_listed : (p : ℕ → Bool) (xs : List ℕ) → all p xs ≡ list_all p xs
unfolding all
all_listed p [] = refl
all_listed p (x ∷ xs) = rw (all_listed p xs)
