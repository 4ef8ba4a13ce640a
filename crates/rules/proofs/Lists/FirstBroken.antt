-- The first element that fails a test by itself, or with an earlier one: its number is that of all elements exactly if
-- none fails, and else below it. Assumes nothing.
use mathlib.Core.Path.{◌≡◌, refl, ap, ◌∙◌}
use mathlib.Core.Bool.{Bool, true, false, ◌&&◌}
use mathlib.Core.List.{List, [], ◌∷◌}
use Prim.Native.Nat.compare
use Prim.Native.Nat.{ℕ, ◌≤◌, ◌<◌}
use native.Mathlib.Omega.{arith}
use lib.Dec.{eqb}
use lib.ListN.{length}
use borrow.Author.Tests.{eqb-false}
use Rattle.rules.specs.Lists.{all, pairwise, first_failing, first_clash}
use Rattle.rules.proofs.Lists.Tests.{by_cases}

and_inner : (a b c d : Bool) → a && b && (c && d) ≡ a && c && (b && d)
and_inner true true c d = refl
and_inner true false true d = refl
and_inner true false false d = refl
and_inner false b c d = refl

and_turn : (a b c : Bool) → a && b && c ≡ b && (a && c)
and_turn true b c = refl
and_turn false true c = refl
and_turn false false c = refl

module _ {A : Type 0} where
  pub none_fails : (f : A → Bool) (xs : List A) → eqb (first_failing f xs) (length xs) ≡ all f xs
  unfolding all first_failing
  none_fails f [] = refl
  none_fails f (x ∷ xs) =
      by_cases (f x) (λ t. rw (t, compare.suc-suc) (none_fails f xs)) (λ t. rw (t, compare.zero-suc))

  all_of_both : (f g : A → Bool) (xs : List A) → all (λ x. f x && g x) xs ≡ all f xs && all g xs
  unfolding all
  all_of_both f g [] = refl
  all_of_both f g (x ∷ xs) = rw (all_of_both f g xs) (and_inner (f x) (g x) (all f xs) (all g xs))

  after_earlier : (f : A → A → Bool) (earlier xs : List A)
      → eqb (first_clash f earlier xs) (length xs) ≡ all (λ x. all (λ y. f y x) earlier) xs && pairwise f xs
  unfolding all pairwise first_clash
  after_earlier f earlier [] = refl
  after_earlier f earlier (x ∷ xs) =
      by_cases (all (λ y. f y x) earlier)
      (λ t. rw (t, compare.suc-suc)
      (after_earlier f (x ∷ earlier) xs
      ∙ ap (λ b. b && pairwise f xs) (all_of_both (f x) (λ z. all (λ y. f y z) earlier) xs)
      ∙ and_turn (all (f x) xs) (all (λ z. all (λ y. f y z) earlier) xs) (pairwise f xs)))
      (λ t. rw (t, compare.zero-suc))

  -- with no earlier element all pass
  none_earlier : (f : A → A → Bool) (xs : List A) → all (λ x. all (λ y. f y x) []) xs ≡ true
  unfolding all
  none_earlier f [] = refl
  none_earlier f (x ∷ xs) = none_earlier f xs

  pub none_clashes : (f : A → A → Bool) (xs : List A) → eqb (first_clash f [] xs) (length xs) ≡ pairwise f xs
  none_clashes f xs = after_earlier f [] xs ∙ rw (none_earlier f xs)

  -- ---- where one fails, its number is that of an element

  failing_at_most : (f : A → Bool) (xs : List A) → first_failing f xs ≤ length xs
  unfolding first_failing
  failing_at_most f [] = omega arith
  failing_at_most f (x ∷ xs) =
      by_cases (f x) (λ t. rw t (omega (arith, failing_at_most f xs))) (λ t. rw t (omega arith))

  clash_at_most : (f : A → A → Bool) (earlier xs : List A) → first_clash f earlier xs ≤ length xs
  unfolding first_clash
  clash_at_most f earlier [] = omega arith
  clash_at_most f earlier (x ∷ xs) =
      by_cases (all (λ y. f y x) earlier)
      (λ t. rw t (omega (arith, clash_at_most f (x ∷ earlier) xs)))
      (λ t. rw t (omega arith))

  pub failing_below : (f : A → Bool) (xs : List A) → all f xs ≡ false → first_failing f xs < length xs
  failing_below f xs h =
      let other = eqb-false (first_failing f xs) (length xs) (none_fails f xs ∙ h) in
      let few = failing_at_most f xs in
      below (first_failing f xs) (length xs) few other
    where
      below : (k n : ℕ) → k ≤ n → (k ≡ n → ⊥) → k < n
      below k n l o = omega (arith, l, o)

  pub clash_below : (f : A → A → Bool) (xs : List A) → pairwise f xs ≡ false → first_clash f [] xs < length xs
  clash_below f xs h =
      let other = eqb-false (first_clash f [] xs) (length xs) (none_clashes f xs ∙ h) in
      omega (arith, clash_at_most f [] xs, other)
