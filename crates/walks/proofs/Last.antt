-- The elements at the end of a list that all pass, as a walk down from the last one finds them. Assumes nothing.
use mathlib.Core.Path.{◌≡◌, refl, ◌∙◌}
use mathlib.Core.Bool.{Bool, true, false}
use mathlib.Core.List.{List, [], ◌∷◌}
use Prim.Native.Nat.{ℕ, zero, suc, ◌+◌, ◌-◌, ◌≤◌, ◌<◌}
use native.Mathlib.Nat.{le_of_suc-le-suc, not-suc-le-zero}
use native.Mathlib.Omega.{arith}
use lib.ListN.{length, take, drop}
use Rattle.rules.specs.Lists.{all, keep}
use Rattle.rules.specs.Commands.{below}
use Rattle.rules.proofs.Lists.Tests.{by_cases, and_true}
use Rattle.walks.specs.Last.{last_from}

below_more : (t : Bool) (n : ℕ) → below t (suc n) ≡ suc (suc n)
unfolding below
below_more true n = refl
below_more false n = refl

module _ {A : Type 0} (f : A → Bool) where
  -- ---- where it begins

  pub last_within : (xs : List A) → last_from f xs ≤ length xs
  unfolding last_from below
  last_within [] = omega arith
  last_within (x ∷ xs) = step (f x) (last_from f xs) (last_within xs)
    where
      step : (b : Bool) (m : ℕ) → m ≤ length xs → below b m ≤ suc (length xs)
      step true zero h = omega arith
      step false zero h = omega arith
      step b (suc m) h = rw below_more (omega arith)

  pub last_passes : (xs : List A) → all f (drop (last_from f xs) xs) ≡ true
  unfolding last_from below all
  last_passes [] = refl
  last_passes (x ∷ xs) = step (f x) (last_from f xs) refl (last_passes xs)
    where
      step : (b : Bool) (m : ℕ) → f x ≡ b → all f (drop m xs) ≡ true → all f (drop (below b m) (x ∷ xs)) ≡ true
      step true zero e h = rw e h
      step false zero e h = h
      step b (suc m) e h = rw below_more h

  -- ---- a walk down from the last element

  pub last_none : (xs : List A) → all f xs ≡ true → last_from f xs ≡ 0
  unfolding all last_from below
  last_none [] h = refl
  last_none (x ∷ xs) h = let (one, more) = and_true (f x) (all f xs) h in rw (one, last_none xs more)

  last_above : (xs : List A) (k n : ℕ) → last_from f (drop k xs) ≡ suc n → last_from f xs ≡ k + suc n
  unfolding last_from
  last_above xs zero n h = h ∙ omega arith
  last_above [] (suc k) n h = absurd (omega arith)
  last_above (x ∷ xs) (suc k) n h =
      let e : k + suc n ≡ suc (k + n) = omega arith in
      rw (last_above xs k n h, e, below_more) (omega arith)

  -- one turn of the walk, from element k down to the one before it
  module _ (xs : List A) (k : ℕ) {x : A} (turn : drop (k - 1) xs ≡ x ∷ drop k xs) (h : all f (drop k xs) ≡ true) where
    pub last_goes : f x ≡ true → all f (drop (k - 1) xs) ≡ true
    unfolding all
    last_goes passes = rw (turn, passes) h

    pub last_found : 0 < k → f x ≡ false → last_from f xs ≡ k
    unfolding last_from below
    last_found some fails = last_above xs (k - 1) 0 (rw (turn, fails, last_none (drop k xs) h)) ∙ omega arith

  -- ---- each of them is one more that passes

  all_kept : (xs : List A) (e : ℕ) → all f xs ≡ true → e ≤ length xs → length (keep f (take e xs)) ≡ e
  unfolding all keep
  all_kept xs zero h l = refl
  all_kept [] (suc e) h l = absurd (not-suc-le-zero l)
  all_kept (x ∷ xs) (suc e) h l =
      let (one, more) = and_true (f x) (all f xs) h in
      rw (one, all_kept xs e more (le_of_suc-le-suc l))

  pub kept_from : (xs : List A) (from e : ℕ) → all f (drop from xs) ≡ true → from ≤ e → e ≤ length xs
      → length (keep f (take e xs)) ≡ length (keep f (take from xs)) + (e - from)
  unfolding keep
  kept_from xs zero e h low high = all_kept xs e h high ∙ omega arith
  kept_from xs (suc from) zero h low high = absurd (not-suc-le-zero low)
  kept_from [] (suc from) (suc e) h low high = absurd (not-suc-le-zero high)
  kept_from (x ∷ xs) (suc from) (suc e) h low high =
      let more = kept_from xs from e h (le_of_suc-le-suc low) (le_of_suc-le-suc high) in
      by_cases (f x) (λ t. rw t (omega arith)) (λ t. rw t (omega arith))
