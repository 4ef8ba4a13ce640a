-- A list that is read from bytes in parts of one width: the turn of a loop over its index. Assumes nothing.
use mathlib.Core.Path.{◌≡◌}
use mathlib.Core.List.{List, ◌∷◌}
use Prim.Native.Nat.{ℕ, zero, suc, ◌+◌, ◌*◌, ◌<◌}
use native.Mathlib.Nat.{le_of_suc-le-suc, not-suc-le-zero}
use native.Mathlib.Numerals.{add-one}
use native.Mathlib.Omega.{arith}
use lib.ListN.{drop}
use lib.Seq.{drop-drop}

-- `rows n` reads n parts from the front
module _ {A : Type 0} (width : ℕ) (part : List ℕ → A) (rows : ℕ → List ℕ → List A)
    (one_more : (n : ℕ) (bs : List ℕ) → rows (suc n) bs ≡ part bs ∷ rows n (drop width bs)) where
  drop_rows : (n i at : ℕ) (bs : List ℕ)
      → i < n
      → drop i (rows n (drop at bs)) ≡ part (drop (at + width * i) bs) ∷ drop (suc i) (rows n (drop at bs))
  drop_rows zero i at bs h = absurd (not-suc-le-zero h)
  drop_rows (suc n) zero at bs h = let e : at + width * 0 ≡ at = omega arith in rw (one_more, e)
  drop_rows (suc n) (suc i) at bs h =
      let e : at + width + width * i ≡ at + width * suc i = omega arith in
      rw (one_more, drop-drop width at bs, drop_rows n i (at + width) bs (le_of_suc-le-suc h), e)

  pub rows_turn : (n i at : ℕ) (bs : List ℕ)
      → i < n
      → drop i (rows n (drop at bs)) ≡ part (drop (at + width * i) bs) ∷ drop (i + 1) (rows n (drop at bs))
  rows_turn n i at bs h = rw add-one (drop_rows n i at bs h)
