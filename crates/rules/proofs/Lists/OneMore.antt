-- Tests over a list with one element more at its end, or with one element left out. Assumes nothing.
use mathlib.Core.Path.{◌≡◌, refl}
use mathlib.Core.Bool.{Bool, true, false}
use mathlib.Core.List.{List, [], ◌∷◌, ◌++◌}
use Prim.Native.Nat.{ℕ, zero, suc}
use lib.ListN.{get_or, take, drop}
use Rattle.rules.specs.Lists.{all, any, pairwise, keep, first}
use Rattle.rules.proofs.Lists.Tests.{by_cases, clash, and_true, both_true}

module _ {A : Type 0} where
  -- ---- elements more at the end

  pub all_append : (f : A → Bool) (xs ys : List A) → all f xs ≡ true → all f ys ≡ true → all f (xs ++ ys) ≡ true
  unfolding all
  all_append f [] ys p q = q
  all_append f (x ∷ xs) ys p q =
      let (h, t) = and_true (f x) (all f xs) p in
      both_true (f x) (all f (xs ++ ys)) h (all_append f xs ys t q)

  pub any_append : (f : A → Bool) (xs ys : List A) → any f xs ≡ true → any f (xs ++ ys) ≡ true
  unfolding any
  any_append f [] ys h = absurd (clash false h refl)
  any_append f (x ∷ xs) ys h = by_cases (f x) (λ t. rw t) (λ t. rw t (any_append f xs ys (rw t at h)))

  pub first_append : (p : A → Bool) (d : A) (xs ys : List A) → any p xs ≡ true → first p d (xs ++ ys) ≡ first p d xs
  unfolding any first
  first_append p d [] ys h = absurd (clash false h refl)
  first_append p d (x ∷ xs) ys h = by_cases (p x) (λ t. rw t) (λ t. rw t (first_append p d xs ys (rw t at h)))

  pub keep_append : (p : A → Bool) (xs ys : List A) → keep p (xs ++ ys) ≡ keep p xs ++ keep p ys
  unfolding keep
  keep_append p [] ys = refl
  keep_append p (x ∷ xs) ys = by_cases (p x) (λ t. rw (t, keep_append p xs ys)) (λ t. rw (t, keep_append p xs ys))

  pub pairwise_append_one : (f : A → A → Bool) (xs : List A) (y : A)
      → pairwise f xs ≡ true
      → all (λ x. f x y) xs ≡ true
      → pairwise f (xs ++ (y ∷ [])) ≡ true
  unfolding all pairwise
  pairwise_append_one f [] y p q = refl
  pairwise_append_one f (x ∷ xs) y p q =
      let (a, b) = and_true (all (f x) xs) (pairwise f xs) p in
      let (c, d) = and_true (f x y) (all (λ z. f z y) xs) q in
      both_true (all (f x) (xs ++ (y ∷ []))) (pairwise f (xs ++ (y ∷ [])))
      (all_append (f x) xs (y ∷ []) a (rw c)) (pairwise_append_one f xs y b d)

  -- ---- one element left out

  abbrev pub left_out : ℕ → List A → List A
  left_out i xs = take i xs ++ drop (suc i) xs

  pub all-left_out : (f : A → Bool) (i : ℕ) (xs : List A) → all f xs ≡ true → all f (left_out i xs) ≡ true
  unfolding all
  all-left_out f zero [] h = refl
  all-left_out f (suc i) [] h = refl
  all-left_out f zero (x ∷ xs) h = (and_true (f x) (all f xs) h).1
  all-left_out f (suc i) (x ∷ xs) h =
      let (p, q) = and_true (f x) (all f xs) h in
      both_true (f x) (all f (left_out i xs)) p (all-left_out f i xs q)

  pub pairwise-left_out : (f : A → A → Bool) (i : ℕ) (xs : List A)
      → pairwise f xs ≡ true
      → pairwise f (left_out i xs) ≡ true
  unfolding pairwise
  pairwise-left_out f zero [] h = refl
  pairwise-left_out f (suc i) [] h = refl
  pairwise-left_out f zero (x ∷ xs) h = (and_true (all (f x) xs) (pairwise f xs) h).1
  pairwise-left_out f (suc i) (x ∷ xs) h =
      let (p, q) = and_true (all (f x) xs) (pairwise f xs) h in
      both_true (all (f x) (left_out i xs)) (pairwise f (left_out i xs))
      (all-left_out (f x) i xs p) (pairwise-left_out f i xs q)

  -- by a test that the element left out does not pass
  module _ (p : A → Bool) (d : A) where
    pub any-left_out : (i : ℕ) (xs : List A)
        → p (get_or xs i d) ≡ false
        → any p xs ≡ true
        → any p (left_out i xs) ≡ true
    unfolding any
    any-left_out zero [] o h = h
    any-left_out (suc i) [] o h = h
    any-left_out zero (x ∷ xs) o h = rw o at h
    any-left_out (suc i) (x ∷ xs) o h =
        by_cases (p x) (λ t. rw t) (λ t. rw t (any-left_out i xs o (rw t at h)))

    pub first-left_out : (i : ℕ) (xs : List A)
        → p (get_or xs i d) ≡ false
        → first p d (left_out i xs) ≡ first p d xs
    unfolding first
    first-left_out zero [] o = refl
    first-left_out (suc i) [] o = refl
    first-left_out zero (x ∷ xs) o = rw o
    first-left_out (suc i) (x ∷ xs) o = rw (first-left_out i xs o)
