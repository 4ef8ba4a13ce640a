-- Bytes programmed upward from an address: one more, none left, and eight as four and then four. Assumes nothing.
use Rattle.std.proofs.Common.{◌≡◌, refl, sym, ap, ◌∙◌, ℕ, suc, ◌+◌, ◌≤◌, ◌<◌, List, [], ◌∷◌, ◌++◌, length, get_or, drop, drop-cons, add-one, arith}
use native.Mathlib.Nat.{add-zero}
use Rattle.std.proofs.Math.ListN.{drop_of_length-le}
use Rattle.rules.specs.Steps.{step, steps, programmed, programs}
use Rattle.rules.specs.declared.Step.TheVariants.{Program}
use Rattle.rules.proofs.Steps.Programming.{steps_append}

pub programs_cons : (a : ℕ) (bs : List ℕ) (i : ℕ) → i < length bs
    → programs (a + i) (drop i bs) ≡ Program (a + i) (get_or bs i 0) ∷ programs (a + (i + 1)) (drop (i + 1) bs)
unfolding programs
programs_cons a bs i h =
    let e : a + suc i ≡ suc (a + i) = omega arith in
    rw (drop-cons bs i 0 h, add-one, e)

pub programs_step : (g a : ℕ) (bs img : List ℕ) (i : ℕ) → i < length bs
    → steps g (programs (a + i) (drop i bs)) img
    ≡ steps g (programs (a + (i + 1)) (drop (i + 1) bs)) (programmed (a + i) (get_or bs i 0) img)
unfolding steps step
programs_step g a bs img i h = rw (programs_cons a bs i h)

pub programs_over : (g a : ℕ) (bs img : List ℕ) (i : ℕ) → length bs ≤ i → steps g (programs (a + i) (drop i bs)) img
    ≡ img
unfolding steps programs
programs_over g a bs img i h = rw (drop_of_length-le bs {i = i} h)

-- ---- eight bytes, four and then four

abbrev four_from : ℕ → List ℕ → List ℕ
four_from i bs = get_or bs i 0 ∷ get_or bs (i + 1) 0 ∷ get_or bs (i + 2) 0 ∷ get_or bs (i + 3) 0 ∷ []

eight_listed : (bs : List ℕ) → length bs ≡ 8 → bs ≡ four_from 0 bs ++ four_from 4 bs
eight_listed bs h =
    drop-cons bs 0 0 (omega arith)
    ∙ rw (
      drop-cons bs 1 0 (omega arith),
      drop-cons bs 2 0 (omega arith),
      drop-cons bs 3 0 (omega arith),
      drop-cons bs 4 0 (omega arith),
      drop-cons bs 5 0 (omega arith),
      drop-cons bs 6 0 (omega arith),
      drop-cons bs 7 0 (omega arith),
      drop_of_length-le bs {i = 8} (omega arith),
    ) refl

programs_append : (a : ℕ) (xs ys : List ℕ) → programs a (xs ++ ys) ≡ programs a xs ++ programs (a + length xs) ys
unfolding programs
programs_append a [] ys = rw add-zero
programs_append a (x ∷ xs) ys =
    let e : a + suc (length xs) ≡ suc a + length xs = omega arith in
    rw e (ap (λ l. Program a x ∷ l) (programs_append (suc a) xs ys))

-- image by image; the second four lie behind the first
pub fours_done : (g a : ℕ) {b : ℕ} (bs img half whole : List ℕ) → length bs ≡ 8
    → half ≡ steps g (programs a (four_from 0 bs)) img → whole ≡ steps g (programs b (four_from 4 bs)) half → b ≡ a + 4
    → whole ≡ steps g (programs a bs) img
fours_done g a {b} bs img half whole h first second at_4 =
    let one_list : programs a bs ≡ programs a (four_from 0 bs) ++ programs b (four_from 4 bs) =
    ap (programs a) (eight_listed bs h) ∙ programs_append a (four_from 0 bs) (four_from 4 bs) ∙ rw at_4 refl in
    second ∙ rw (first, one_list)
    (sym (steps_append g (programs a (four_from 0 bs)) (programs b (four_from 4 bs)) img))
