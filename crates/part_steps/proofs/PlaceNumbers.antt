-- Numbers of two bytes each: how many there are, and the one at an index. Assumes nothing.
use mathlib.Core.Path.{◌≡◌, refl, ◌∙◌}
use mathlib.Core.List.{List, [], ◌∷◌}
use Prim.Native.Nat.{ℕ, zero, suc, ◌+◌, ◌*◌, ◌≤◌, ◌<◌}
use native.Mathlib.Nat.{le_of_suc-le-suc, not-suc-le-zero}
use native.Mathlib.Numerals.{add-one}
use native.Mathlib.Omega.{arith}
use lib.ListN.{length, get_or, drop, drop_of_length-le}
use lib.Seq.{drop-cons}
use Rattle.rules.specs.Bytes.{field}
use Rattle.walks.proofs.Fields.{field-drop}
use Rattle.part_steps.specs.Parts.{numbers_from}

pub length_numbers : (n : ℕ) (bs : List ℕ) → length (numbers_from n bs) ≡ n
unfolding numbers_from
length_numbers zero bs = refl
length_numbers (suc n) bs = rw (length_numbers n (drop 2 bs))

pub number_at : (n i : ℕ) (bs : List ℕ) → i < n → get_or (numbers_from n bs) i 0 ≡ field (2 * i) 2 bs
unfolding numbers_from
number_at zero i bs h = absurd (not-suc-le-zero h)
number_at (suc n) zero bs h = refl
number_at (suc n) (suc i) bs h =
    let e : 2 + 2 * i ≡ 2 * suc i = omega arith in
    number_at n i (drop 2 bs) (le_of_suc-le-suc h) ∙ rw (field-drop (2 * i) 2 2 bs, e)

pub number_cons : (n i k : ℕ) (bs : List ℕ) → k ≡ field (2 * i) 2 bs → i < n
    → drop i (numbers_from n bs) ≡ k ∷ drop (i + 1) (numbers_from n bs)
number_cons n i k bs e h =
    rw (drop-cons (numbers_from n bs) i 0 (rw (length_numbers n bs) h), number_at n i bs h, e, add-one)

pub numbers_over : (n i : ℕ) (bs : List ℕ) → n ≤ i → drop i (numbers_from n bs) ≡ []
numbers_over n i bs h = drop_of_length-le (numbers_from n bs) {i = i} (rw (length_numbers n bs) h)
