-- Bytes programmed upward from an address: their steps from one on. Assumes nothing.
use mathlib.Core.Path.{◌≡◌, refl, ap, sym, ◌∙◌}
use mathlib.Core.Bool.{true, ◌&&◌}
use mathlib.Core.Logic.{◌⊎◌, inl, inr}
use mathlib.Core.List.{List, [], ◌∷◌}
use Prim.Native.Nat.{ℕ, zero, suc, ◌+◌, ◌-◌, ◌≤◌, ◌<◌, min}
use native.Mathlib.Nat.{add-zero}
use native.Mathlib.Omega.{arith}
use lib.Dec.{leb, ltb}
use lib.ListN.{length, get_or, take, drop, length-drop, drop_of_length-le}
use lib.Seq.{drop-cons, take-nil, take_all}
use borrow.Author.Tests.{lt-ltb, le-ltb, lt-leb, leb-true, leb-false, ltb-false}
use Rattle.rules.proofs.Lists.Tests.{by_cases, or_true}
use Rattle.walks.proofs.Joined.{and_with_true}
use Rattle.rules.specs.Lists.{all}
use Rattle.rules.specs.Steps.{steps, programs}
use Rattle.rules.specs.Cuts.{inside}
use Rattle.rules.specs.declared.Step.TheVariants.{Program}
use Rattle.part_steps.specs.Parts.{first_step}
use Rattle.part_steps.specs.Inner.Windows.{chosen, programs_inside}
use Rattle.part_steps.specs.declared.windows.Window.{Window}
use Rattle.part_steps.proofs.Splits.{take_least}
use Rattle.std.specs.Prelude.{Some, None}

pub length-programs : (a : ℕ) (bs : List ℕ) → length (programs a bs) ≡ length bs
unfolding programs
length-programs a [] = refl
length-programs a (b ∷ bs) = ap suc (length-programs (suc a) bs)

pub drop-programs : (k a : ℕ) (bs : List ℕ) → drop k (programs a bs) ≡ programs (a + k) (drop k bs)
unfolding programs
drop-programs zero a bs = rw add-zero
drop-programs (suc k) a [] = refl
drop-programs (suc k) a (b ∷ bs) =
    let e : a + suc k ≡ suc a + k = omega arith in
    rw e (drop-programs k (suc a) bs)

pub take-programs : (n a : ℕ) (bs : List ℕ) → take n (programs a bs) ≡ programs a (take n bs)
unfolding programs
take-programs zero a bs = refl
take-programs (suc n) a [] = refl
take-programs (suc n) a (b ∷ bs) = ap (λ l. Program a b ∷ l) (take-programs n (suc a) bs)

-- at most n of the steps from one on, as bytes
pub programs_part : (n k a : ℕ) (bs : List ℕ)
    → take n (drop k (programs a bs)) ≡ programs (a + k) (take n (drop k bs))
programs_part n k a bs = rw (drop-programs k a bs) (take-programs n (a + k) (drop k bs))

module _ (w : Window) (a : ℕ) (bs : List ℕ) where
  pub programs-chosen : (m : ℕ) → m ≡ min w.n (length bs - w.from)
      → programs (a + w.from) (take (w.from + m - w.from) (drop w.from bs)) ≡ chosen w (programs a bs)
  unfolding chosen
  programs-chosen m e =
      let same_count : w.from + m - w.from ≡ min w.n (length (drop w.from bs)) = rw length-drop (omega arith) in
      rw (same_count, take_least w.n (drop w.from bs)) (sym (programs_part w.n w.from a bs))

  pub all_chosen : w.from ≡ 0 → length bs ≤ w.n → chosen w (programs a bs) ≡ programs a bs
  unfolding chosen
  all_chosen first enough = rw first (take_all w.n (programs a bs) (rw length-programs enough))

  pub no_programs : (g : ℕ) (img : List ℕ) → length bs ≤ w.from → img ≡ steps g (chosen w (programs a bs)) img
  unfolding steps chosen
  no_programs g img h =
      rw (drop_of_length-le (programs a bs) {i = w.from} (rw length-programs h), take-nil)

-- ---- inside an image

-- an address is below a length if a byte from there ends by it
below_as_bound : (a len : ℕ) → ltb a len ≡ leb (a + 1) len
below_as_bound a len =
    by_cases (leb (a + 1) len)
    (λ t. lt-ltb a len (omega (arith, leb-true (a + 1) len t)) ∙ sym t)
    (λ t. le-ltb a len (omega (arith, leb-false (a + 1) len t)) ∙ sym t)

-- and so if more bytes do
below_too : (a len n : ℕ) → ltb a len && leb (a + suc (suc n)) len ≡ leb (a + suc (suc n)) len
below_too a len n =
    by_cases (ltb a len)
    (λ t. rw t)
    (λ t. rw (t, lt-leb (a + suc (suc n)) len (omega (arith, ltb-false a len t))))

all-programs : (g len a b : ℕ) (bs : List ℕ)
    → all (inside g len) (programs a (b ∷ bs)) ≡ leb (a + suc (length bs)) len
unfolding all inside programs
all-programs g len a b [] = rw (below_as_bound a len) (and_with_true (leb (a + 1) len))
all-programs g len a b (c ∷ bs) =
    let e : suc a + suc (length bs) ≡ a + suc (suc (length bs)) = omega arith in
    rw (all-programs g len (suc a) c bs, e) (below_too a len (length bs))

pub inside-programs : (g len a : ℕ) (bs : List ℕ) (k : ℕ)
    → all (inside g len) (drop k (programs a bs)) ≡ programs_inside len a (length bs) k
unfolding programs_inside all programs
inside-programs g len a bs k =
    by_cases (leb (length bs) k)
    (λ t. rw (t, drop-programs k a bs, drop_of_length-le bs {i = k} (leb-true (length bs) k t)))
    (λ t.
    let h = leb-false (length bs) k t in
    let e : a + k + suc (length (drop (suc k) bs)) ≡ a + length bs = rw length-drop (omega arith) in
    rw (t, drop-programs k a bs, drop-cons bs k 0 h, all-programs g len (a + k) (get_or bs k 0) (drop (suc k) bs), e))

-- steps that stay inside, and one of them is left: all of the bytes do
pub bytes_inside : (len a n k : ℕ) → programs_inside len a n k ≡ true → k < n → a + n ≤ len
unfolding programs_inside
bytes_inside len a n k t h = from (or_true (leb n k) (leb (a + n) len) t)
  where
    from : (leb n k ≡ true) ⊎ (leb (a + n) len ≡ true) → a + n ≤ len
    from (inl u) = absurd (omega (arith, leb-true n k u))
    from (inr u) = leb-true (a + n) len u

-- ---- the next of them

pub next_some : (a : ℕ) (bs : List ℕ) (k : ℕ) → k < length bs
    → first_step (drop k (programs a bs)) ≡ Some (Program (a + k) (get_or bs k 0))
unfolding first_step programs
next_some a bs k h = rw (drop-programs k a bs, drop-cons bs k 0 h)

pub next_none : (a : ℕ) (bs : List ℕ) (k : ℕ) → length bs ≤ k → first_step (drop k (programs a bs)) ≡ None
unfolding first_step
next_none a bs k h = rw (drop_of_length-le (programs a bs) {i = k} (rw length-programs h))
