-- Two lists of steps joined: the steps in a window, part by part. Assumes nothing.
use mathlib.Core.Path.{◌≡◌, refl, ap, sym, ◌∙◌}
use mathlib.Core.Bool.{Bool, ◌&&◌}
use mathlib.Core.List.{List, [], ◌∷◌, ◌++◌}
use Prim.Native.Nat.{ℕ, zero, suc, ◌-◌, ◌≤◌, ◌<◌, min}
use native.Mathlib.Nat.{le_of_suc-le-suc, not-suc-le-zero}
use native.Mathlib.Omega.{arith}
use lib.Dec.{leb}
use lib.ListN.{length, take, drop, length-drop, drop_of_length-le}
use lib.Seq.{take_all, take-length, drop-length}
use borrow.Author.Tests.{leb-true, leb-false}
use Rattle.rules.proofs.Lists.Tests.{by_cases}
use Rattle.rules.proofs.Steps.Programming.{steps_append}
use Rattle.walks.proofs.Joined.{and_assoc}
use Rattle.rules.specs.Lists.{all}
use Rattle.rules.specs.Steps.{steps}
use Rattle.rules.specs.declared.Step.{Step}
use Rattle.part_steps.specs.Parts.{first_step}
use Rattle.part_steps.specs.Inner.Windows.{chosen, beyond}
use Rattle.part_steps.specs.declared.windows.Window.{Window}

module _ {A : Type 0} where
  pub drop_append : (k : ℕ) (xs ys : List A) → drop k (xs ++ ys) ≡ drop k xs ++ drop (k - length xs) ys
  drop_append zero xs ys = let e : 0 - length xs ≡ 0 = omega arith in rw e
  drop_append (suc k) [] ys = let e : suc k - 0 ≡ suc k = omega arith in rw e
  drop_append (suc k) (x ∷ xs) ys =
      let e : suc k - suc (length xs) ≡ k - length xs = omega arith in
      rw e (drop_append k xs ys)

  pub take_append : (n : ℕ) (xs ys : List A) → take n (xs ++ ys) ≡ take n xs ++ take (n - length xs) ys
  take_append zero xs ys = let e : 0 - length xs ≡ 0 = omega arith in rw e
  take_append (suc n) [] ys = let e : suc n - 0 ≡ suc n = omega arith in rw e
  take_append (suc n) (x ∷ xs) ys =
      let e : suc n - suc (length xs) ≡ n - length xs = omega arith in
      rw e (ap (λ l. x ∷ l) (take_append n xs ys))

  -- at most n, and no more than there are
  module _ (n : ℕ) (xs : List A) where
    pub take_least : take (min n (length xs)) xs ≡ take n xs
    take_least =
        by_cases (leb n (length xs))
        (λ t. let h = leb-true n (length xs) t in let e : min n (length xs) ≡ n = omega arith in rw e)
        (λ t.
        let h = leb-false n (length xs) t in
        let e : min n (length xs) ≡ length xs = omega arith in
        rw (e, take-length xs, take_all n xs (omega arith)))

    pub drop_least : drop (min n (length xs)) xs ≡ drop n xs
    drop_least =
        by_cases (leb n (length xs))
        (λ t. let h = leb-true n (length xs) t in let e : min n (length xs) ≡ n = omega arith in rw e)
        (λ t.
        let h = leb-false n (length xs) t in
        let e : min n (length xs) ≡ length xs = omega arith in
        rw (e, drop-length xs, drop_of_length-le xs {i = n} (omega arith)))

  module _ (f : A → Bool) where
    all_append : (xs ys : List A) → all f (xs ++ ys) ≡ all f xs && all f ys
    unfolding all
    all_append [] ys = refl
    all_append (x ∷ xs) ys = rw (all_append xs ys) (sym (and_assoc (f x) (all f xs) (all f ys)))

    pub all_split : (k : ℕ) (xs ys : List A)
        → all f (drop k (xs ++ ys)) ≡ all f (drop k xs) && all f (drop (k - length xs) ys)
    all_split k xs ys = rw (drop_append k xs ys) (all_append (drop k xs) (drop (k - length xs) ys))

module _ (g : ℕ) where
  pub steps_split : (w : Window) (xs ys : List Step) (img : List ℕ)
      → steps g (chosen w (xs ++ ys)) img
      ≡ steps g (chosen (beyond (length xs) w) ys) (steps g (chosen w xs) img)
  unfolding chosen beyond
  steps_split w xs ys img =
      let n = w.n in
      let k = w.from in
      rw (drop_append k xs ys, take_append n (drop k xs) (drop (k - length xs) ys), length-drop k xs)
      (steps_append g (take n (drop k xs)) (take (n - (length xs - k)) (drop (k - length xs) ys)) img)

  -- the same, image by image
  pub steps_joined : (w rest : Window) (xs ys : List Step) (img half after : List ℕ)
      → rest ≡ beyond (length xs) w
      → half ≡ steps g (chosen w xs) img
      → after ≡ steps g (chosen rest ys) half
      → after ≡ steps g (chosen w (xs ++ ys)) img
  steps_joined w rest xs ys img half after er eh ea = ea ∙ rw (er, eh) (sym (steps_split w xs ys img))

pub first_left : (k : ℕ) (xs ys : List Step) → k < length xs
    → first_step (drop k (xs ++ ys)) ≡ first_step (drop k xs)
unfolding first_step
first_left k [] ys h = absurd (not-suc-le-zero h)
first_left zero (x ∷ xs) ys h = refl
first_left (suc k) (x ∷ xs) ys h = first_left k xs ys (le_of_suc-le-suc h)

pub first_right : (k : ℕ) (xs ys : List Step) → length xs ≤ k
    → first_step (drop k (xs ++ ys)) ≡ first_step (drop (k - length xs) ys)
first_right k xs ys h = rw (drop_append k xs ys, drop_of_length-le xs {i = k} h)
