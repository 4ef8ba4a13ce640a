-- Facts about tests over lists: all, any, pairwise, keep, first, and one element changed. Assumes nothing.
use mathlib.Core.Path.{subst, ◌≡◌, refl, sym}
use mathlib.Core.Bool.{Bool, true, false, not, ◌&&◌, ◌||◌}
use mathlib.Core.List.{List, [], ◌∷◌, ◌++◌}
use Prim.Native.Nat.{ℕ, zero, suc, ◌≤◌, ◌<◌}
use native.Mathlib.Nat.{le_of_suc-le-suc, not-suc-le-zero}
use native.Mathlib.Omega.{arith}
use lib.ListN.{length, get_or, set, take, drop}
use Rattle.rules.specs.Lists.{all, any, pairwise, keep, first}
use Rattle.rules.proofs.Lists.Tests.{by_cases, clash, and_true, both_true, or_false}

or_right : (b : Bool) → b || true ≡ true
or_right true = refl
or_right false = refl

module _ {A : Type 0} where
  -- ---- all

  pub all_at : (f : A → Bool) (xs : List A) (d : A) (i : ℕ)
      → all f xs ≡ true
      → i < length xs
      → f (get_or xs i d) ≡ true
  unfolding all
  all_at f [] d i t h = absurd (not-suc-le-zero h)
  all_at f (x ∷ xs) d zero t h = (and_true (f x) (all f xs) t).0
  all_at f (x ∷ xs) d (suc i) t h = all_at f xs d i (and_true (f x) (all f xs) t).1 (le_of_suc-le-suc h)

  pub all_weaker : (f g : A → Bool)
      → ((x : A) → f x ≡ true → g x ≡ true)
      → (xs : List A)
      → all f xs ≡ true
      → all g xs ≡ true
  unfolding all
  all_weaker f g h [] t = refl
  all_weaker f g h (x ∷ xs) t =
      let (p, q) = and_true (f x) (all f xs) t in
      both_true (g x) (all g xs) (h x p) (all_weaker f g h xs q)

  pub all_same : (f g : A → Bool) → ((x : A) → f x ≡ g x) → (xs : List A) → all f xs ≡ all g xs
  unfolding all
  all_same f g h [] = refl
  all_same f g h (x ∷ xs) = rw (h x, all_same f g h xs)

  pub all_from_two : (f g h : A → Bool)
      → ((x : A) → f x ≡ true → g x ≡ true → h x ≡ true)
      → (xs : List A)
      → all f xs ≡ true
      → all g xs ≡ true
      → all h xs ≡ true
  unfolding all
  all_from_two f g h k [] t u = refl
  all_from_two f g h k (x ∷ xs) t u =
      let (p, q) = and_true (f x) (all f xs) t in
      let (r, s) = and_true (g x) (all g xs) u in
      both_true (h x) (all h xs) (k x p r) (all_from_two f g h k xs q s)

  pub all_of_none : (f : A → Bool) (xs : List A) → any f xs ≡ false → all (λ x. not (f x)) xs ≡ true
  unfolding any all
  all_of_none f [] h = refl
  all_of_none f (x ∷ xs) h = let (p, q) = or_false (f x) (any f xs) h in rw (p, all_of_none f xs q)

  -- ---- the elements kept

  pub all_of_kept : (f p : A → Bool) (xs : List A) → all f xs ≡ true → all f (keep p xs) ≡ true
  unfolding all keep
  all_of_kept f p [] t = refl
  all_of_kept f p (x ∷ xs) t =
      let (q, r) = and_true (f x) (all f xs) t in
      by_cases (p x) (λ y. rw (y, q) (all_of_kept f p xs r)) (λ y. rw y (all_of_kept f p xs r))

  pub kept_pass : (p : A → Bool) (xs : List A) → all p (keep p xs) ≡ true
  unfolding all keep
  kept_pass p [] = refl
  kept_pass p (x ∷ xs) = by_cases (p x) (λ y. rw (y, y) (kept_pass p xs)) (λ y. rw y (kept_pass p xs))

  pub pairwise_of_kept : (f : A → A → Bool) (p : A → Bool) (xs : List A)
      → pairwise f xs ≡ true
      → pairwise f (keep p xs) ≡ true
  unfolding pairwise keep
  pairwise_of_kept f p [] t = refl
  pairwise_of_kept f p (x ∷ xs) t =
      let (q, r) = and_true (all (f x) xs) (pairwise f xs) t in
      by_cases (p x)
      (λ y. rw (y, all_of_kept (f x) p xs q) (pairwise_of_kept f p xs r))
      (λ y. rw y (pairwise_of_kept f p xs r))

  pub kept_no_more : (p : A → Bool) (xs : List A) → length (keep p xs) ≤ length xs
  unfolding keep
  kept_no_more p [] = omega arith
  kept_no_more p (x ∷ xs) =
      by_cases (p x)
      (λ y. rw y (omega (arith, kept_no_more p xs)))
      (λ y. rw y (omega (arith, kept_no_more p xs)))

  -- ---- the first that passes

  pub first_passes : (p : A → Bool) (d : A) (xs : List A) → any p xs ≡ true → p (first p d xs) ≡ true
  unfolding any first
  first_passes p d [] a = absurd (clash false a refl)
  first_passes p d (x ∷ xs) a = by_cases (p x) (λ y. rw (y, y)) (λ y. rw y (first_passes p d xs (rw y at a)))

  pub first_of_all : (f p : A → Bool) (d : A) (xs : List A)
      → any p xs ≡ true
      → all f xs ≡ true
      → f (first p d xs) ≡ true
  unfolding any all first
  first_of_all f p d [] a t = absurd (clash false a refl)
  first_of_all f p d (x ∷ xs) a t =
      let (q, r) = and_true (f x) (all f xs) t in
      by_cases (p x) (λ y. rw (y, q)) (λ y. rw y (first_of_all f p d xs (rw y at a) r))

  -- of a list that passes in pairs, the first that passes alone goes with every other, one way round or the other
  pub first_with_others : (f : A → A → Bool) (p : A → Bool) (d : A) (xs : List A)
      → pairwise f xs ≡ true
      → any p xs ≡ true
      → all (λ x. p x || (f (first p d xs) x || f x (first p d xs))) xs ≡ true
  unfolding pairwise any all first
  first_with_others f p d [] t a = refl
  first_with_others f p d (x ∷ xs) t a =
      let (q, r) = and_true (all (f x) xs) (pairwise f xs) t in
      by_cases (p x)
      (λ y.
      let g : first p d (x ∷ xs) ≡ x = rw y refl in
      subst
      (λ (w : A). (p x || (f w x || f x w)) && all (λ z. p z || (f w z || f z w)) xs ≡ true)
      (sym g)
      (rw y (all_weaker (f x) (λ z. p z || (f x z || f z x)) (λ z h. rw h (or_right (p z))) xs q)))
      (λ y.
      let g : first p d (x ∷ xs) ≡ first p d xs = rw y refl in
      subst
      (λ (w : A). (p x || (f w x || f x w)) && all (λ z. p z || (f w z || f z w)) xs ≡ true)
      (sym g)
      (rw (y, first_of_all (f x) p d xs (rw y at a) q, or_right (f (first p d xs) x))
      (first_with_others f p d xs r (rw y at a))))

  -- ---- one element changed

  pub all_after_set : (f : A → Bool) (y : A) (xs : List A) (i : ℕ)
      → all f xs ≡ true
      → f y ≡ true
      → all f (set xs i y) ≡ true
  unfolding all
  all_after_set f y [] i h k = refl
  all_after_set f y (x ∷ xs) zero h k = both_true (f y) (all f xs) k (and_true (f x) (all f xs) h).1
  all_after_set f y (x ∷ xs) (suc i) h k =
      let (p, q) = and_true (f x) (all f xs) h in
      both_true (f x) (all f (set xs i y)) p (all_after_set f y xs i q k)

  -- ---- one element changed for another that goes by the same tests

  module _ (d y : A) where
    pub all_with_like : (f : A → Bool) (xs : List A) (i : ℕ)
        → f y ≡ f (get_or xs i d)
        → all f (set xs i y) ≡ all f xs
    unfolding all
    all_with_like f [] i e = refl
    all_with_like f (x ∷ xs) zero e = rw e
    all_with_like f (x ∷ xs) (suc i) e = rw (all_with_like f xs i e)

    pub any_with_like : (f : A → Bool) (xs : List A) (i : ℕ)
        → f y ≡ f (get_or xs i d)
        → any f (set xs i y) ≡ any f xs
    unfolding any
    any_with_like f [] i e = refl
    any_with_like f (x ∷ xs) zero e = rw e
    any_with_like f (x ∷ xs) (suc i) e = rw (any_with_like f xs i e)

    pub pairwise_with_like : (f : A → A → Bool) (xs : List A) (i : ℕ)
        → ((x : A) → f x y ≡ f x (get_or xs i d))
        → ((x : A) → f y x ≡ f (get_or xs i d) x)
        → pairwise f (set xs i y) ≡ pairwise f xs
    unfolding pairwise
    pairwise_with_like f [] i before after = refl
    pairwise_with_like f (x ∷ xs) zero before after = rw (all_same (f y) (f x) after xs)
    pairwise_with_like f (x ∷ xs) (suc i) before after =
        rw (all_with_like (f x) xs i (before x), pairwise_with_like f xs i before after)

    -- passed over before and after
    pub first_with_like : (p : A → Bool) (xs : List A) (i : ℕ)
        → p y ≡ false
        → p (get_or xs i d) ≡ false
        → first p d (set xs i y) ≡ first p d xs
    unfolding first
    first_with_like p [] i new old = refl
    first_with_like p (x ∷ xs) zero new old = rw (old, new)
    first_with_like p (x ∷ xs) (suc i) new old = rw (first_with_like p xs i new old)

  -- and for one that goes with every other element, both ways round
  pub pairwise_with_new : (f : A → A → Bool) (y : A) (xs : List A) (i : ℕ)
      → pairwise f xs ≡ true
      → all (λ x. f x y && f y x) (take i xs ++ drop (suc i) xs) ≡ true
      → pairwise f (set xs i y) ≡ true
  unfolding all pairwise
  pairwise_with_new f y [] i t h = refl
  pairwise_with_new f y (x ∷ xs) zero t h =
      both_true (all (f y) xs) (pairwise f xs)
      (all_weaker _ (f y) (λ z b. (and_true (f z y) (f y z) b).1) xs h)
      (and_true (all (f x) xs) (pairwise f xs) t).1
  pairwise_with_new f y (x ∷ xs) (suc i) t h =
      let (q, r) = and_true (all (f x) xs) (pairwise f xs) t in
      let (b, rest) = and_true (f x y && f y x) _ h in
      both_true (all (f x) (set xs i y)) (pairwise f (set xs i y))
      (all_after_set (f x) y xs i q (and_true (f x y) (f y x) b).0)
      (pairwise_with_new f y xs i r rest)
