-- Decimal digits: all but the last are those of the tenth part. Assumes nothing.
use mathlib.Core.Path.{◌≡◌, ap, ◌∙◌}
use mathlib.Core.Bool.{cond}
use mathlib.Core.List.{List, [], ◌∷◌, ◌++◌}
use Prim.Native.Nat.{ℕ, zero, suc, ◌+◌, ◌/◌, ◌%◌, ◌^◌, ◌≤◌, ◌<◌}
use native.Mathlib.Omega.{arith}
use native.Mathlib.Nat.{pow-suc, pow-zero}
use lib.Dec.{ltb}
use borrow.Author.Tests.{lt-ltb, le-ltb}
use Rattle.text.specs.Shown.{digits, decimal}

-- a number below 10 to the power n has at most n digits
digits_enough : (n v : ℕ) → v < 10 ^ suc n → digits (suc n) v ≡ digits (suc (suc n)) v
unfolding digits
digits_enough zero v h = rw (lt-ltb v 10 (omega (arith, pow-suc 10 0, pow-zero 10)))
digits_enough (suc n) v h =
    ap (λ (front : List ℕ). cond (ltb v 10) ((0x30 + v) ∷ []) (front ++ ((0x30 + v % 10) ∷ [])))
    (digits_enough n (v / 10) (omega (arith, pow-suc 10 (suc n))))

pub decimal_short : (v : ℕ) → v < 10 → decimal v ≡ (0x30 + v) ∷ []
unfolding decimal digits
decimal_short v h = rw (lt-ltb v 10 h)

last_digit : (n v : ℕ) → 10 ≤ v → digits (suc n) v ≡ digits n (v / 10) ++ ((0x30 + v % 10) ∷ [])
unfolding digits
last_digit n v h = rw (le-ltb v 10 h)

pub decimal_long : (v : ℕ) → 10 ≤ v → v < 2 ^ 64 → decimal v ≡ decimal (v / 10) ++ ((0x30 + v % 10) ∷ [])
unfolding decimal
decimal_long v h k =
    last_digit 19 v h ∙ ap (λ (front : List ℕ). front ++ ((0x30 + v % 10) ∷ [])) (digits_enough 18 (v / 10) (omega arith))
