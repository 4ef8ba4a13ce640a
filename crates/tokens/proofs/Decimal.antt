-- How a decimal number goes on from one byte of its word to the next. Assumes nothing.
use mathlib.Core.Path.{◌≡◌, refl}
use Rattle.std.specs.Prelude.{Some, None}
use mathlib.Core.List.{List, [], ◌∷◌}
use Prim.Native.Nat.{ℕ, suc, ◌+◌, ◌*◌, ◌^◌, ◌≤◌, ◌<◌}
use native.Mathlib.Omega.{arith}
use lib.ListN.{length, get_or, drop, drop_of_length-le}
use lib.Seq.{drop-cons}
use borrow.Author.Tests.{lt-ltb, le-ltb}
use Rattle.tokens.specs.Numbers.{digit, number_from, number}

-- ---- a word

module _ (w : List ℕ) (v i : ℕ) where
  pub number_over : length w ≤ i → number_from v (drop i w) ≡ Some v
  unfolding number_from
  number_over h = rw (drop_of_length-le w {i = i} h)

  pub number_no_digit : i < length w → 10 ≤ digit (get_or w i 0) → number_from v (drop i w) ≡ None
  unfolding number_from
  number_no_digit h k = rw (drop-cons w i 0 h, le-ltb (digit (get_or w i 0)) 10 k)

  pub number_too_large : i < length w
      → digit (get_or w i 0) < 10
      → 2 ^ 64 ≤ 10 * v + digit (get_or w i 0)
      → number_from v (drop i w) ≡ None
  unfolding number_from
  number_too_large h d k =
      rw (
        drop-cons w i 0 h,
        lt-ltb (digit (get_or w i 0)) 10 d,
        le-ltb (10 * v + digit (get_or w i 0)) (2 ^ 64) k,
      )

  pub number_goes : i < length w
      → digit (get_or w i 0) < 10
      → 10 * v + digit (get_or w i 0) < 2 ^ 64
      → number_from v (drop i w) ≡ number_from (10 * v + digit (get_or w i 0)) (drop (suc i) w)
  unfolding number_from
  number_goes h d k =
      rw (
        drop-cons w i 0 h,
        lt-ltb (digit (get_or w i 0)) 10 d,
        lt-ltb (10 * v + digit (get_or w i 0)) (2 ^ 64) k,
      )

pub number_empty : (w : List ℕ) → length w ≡ 0 → number w ≡ None
unfolding number
number_empty [] h = refl
number_empty (b ∷ bs) h = absurd (omega arith)

pub number_begins : (w : List ℕ) → 0 < length w → number w ≡ number_from 0 w
unfolding number
number_begins [] h = absurd (omega arith)
number_begins (b ∷ bs) h = refl
