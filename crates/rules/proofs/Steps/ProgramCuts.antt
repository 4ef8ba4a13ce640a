-- Bytes programmed upward, cut anywhere: some of the first are programmed, and nothing else changes. Assumes nothing.
use mathlib.Core.Path.{◌≡◌, refl}
use mathlib.Core.Logic.{inl, inr}
use mathlib.Core.List.{List, [], ◌∷◌}
use Prim.Native.Nat.{ℕ, zero, suc, ◌+◌, ◌≤◌, ◌<◌}
use native.Mathlib.Nat.{le_of_suc-le-suc, not-suc-le-zero, zero-add, suc-add}
use native.Mathlib.Omega.{arith}
use lib.Bits.{bit_and}
use lib.ListN.{length, get_or, take}
use Rattle.rules.specs.declared.Step.TheVariants.{Program}
use Rattle.rules.specs.Steps.{step, steps, programs}
use Rattle.rules.proofs.Steps.Programming.{anded, anded_at, steps-programs}
use Rattle.rules.proofs.Steps.Cutting.{Cut, cut_all}
use Rattle.rules.proofs.Steps.Frame.{Only, Range, within_programs, cut_only}

pub programs_cut : (g a : ℕ) (bs img img' : List ℕ)
    → Cut g (programs a bs) img img'
    → (n : ℕ) × (n ≤ length bs) × (img' ≡ steps g (programs a (take n bs)) img)
unfolding programs steps
programs_cut g a [] img img' c = (0, omega arith, c)
programs_cut g a (b ∷ bs) img img' (inl e) = (0, omega arith, e)
programs_cut g a (b ∷ bs) img img' (inr (inl p)) = absurd p
programs_cut g a (b ∷ bs) img img' (inr (inr c)) =
    let (n, h, e) = programs_cut g (suc a) bs (step g (Program a b) img) img' c in
    (suc n, omega arith, e)

anded_byte : (img bs : List ℕ) (j : ℕ)
    → j < length bs
    → j < length img
    → get_or (anded img bs) j 0 ≡ bit_and (get_or img j 0) (get_or bs j 0)
anded_byte [] bs j h k = absurd (not-suc-le-zero k)
anded_byte (x ∷ xs) [] j h k = absurd (not-suc-le-zero h)
anded_byte (x ∷ xs) (b ∷ bs) zero h k = refl
anded_byte (x ∷ xs) (b ∷ bs) (suc j) h k = anded_byte xs bs j (le_of_suc-le-suc h) (le_of_suc-le-suc k)

anded_at_byte : (a : ℕ) (bs img : List ℕ) (j : ℕ)
    → j < length bs
    → a + j < length img
    → get_or (anded_at a bs img) (a + j) 0 ≡ bit_and (get_or img (a + j) 0) (get_or bs j 0)
anded_at_byte zero bs img j h k = rw (zero-add j) (anded_byte img bs j h (omega arith))
anded_at_byte (suc a) bs [] j h k = absurd (not-suc-le-zero k)
anded_at_byte (suc a) bs (x ∷ xs) j h k = rw (suc-add a j) (anded_at_byte a bs xs j h (omega arith))

pub programs_byte : (g a : ℕ) (bs img : List ℕ) (j : ℕ)
    → j < length bs
    → a + j < length img
    → get_or (steps g (programs a bs) img) (a + j) 0 ≡ bit_and (get_or img (a + j) 0) (get_or bs j 0)
programs_byte g a bs img j h k = rw (steps-programs g a bs img) (anded_at_byte a bs img j h k)

pub programs_only : (g a : ℕ) (bs img : List ℕ) → Only (Range a (length bs)) img (steps g (programs a bs) img)
programs_only g a bs img =
    cut_only g (Range a (length bs)) (programs a bs) img (steps g (programs a bs) img)
    (within_programs g (length img) (Range a (length bs)) a bs (λ i r. r))
    (cut_all g (programs a bs) img)
