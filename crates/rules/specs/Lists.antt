-- Tests on lists, and the few list functions that the rules are told with. Assumes nothing.
use Rattle.std.specs.Prelude.{Bool, true, false, cond, ◌&&◌, ◌||◌, List, [], ◌∷◌, ℕ, suc, eqb}

-- two lists of numbers are equal
unfoldable pub same : List ℕ → List ℕ → Bool
same [] [] = true
same [] (y ∷ ys) = false
same (x ∷ xs) [] = false
same (x ∷ xs) (y ∷ ys) = eqb x y && same xs ys

unfoldable pub member : ℕ → List ℕ → Bool
member a [] = false
member a (x ∷ xs) = eqb a x || member a xs

-- the list with each occurrence of a number left out
unfoldable pub without : ℕ → List ℕ → List ℕ
without a [] = []
without a (x ∷ xs) = cond (eqb a x) (without a xs) (x ∷ without a xs)

module _ {A : Type 0} where
  unfoldable pub all : (A → Bool) → List A → Bool
  all f [] = true
  all f (x ∷ xs) = f x && all f xs

  unfoldable pub any : (A → Bool) → List A → Bool
  any f [] = false
  any f (x ∷ xs) = f x || any f xs

  -- every two elements at different places pass
  unfoldable pub pairwise : (A → A → Bool) → List A → Bool
  pairwise f [] = true
  pairwise f (x ∷ xs) = all (f x) xs && pairwise f xs

  -- the number of the first element that does not pass; the length where all pass
  unfoldable pub first_failing : (A → Bool) → List A → ℕ
  first_failing f [] = 0
  first_failing f (x ∷ xs) = cond (f x) (suc (first_failing f xs)) 0

  -- the number of the first element that does not pass with an earlier one, counted after those that are earlier already
  unfoldable pub first_clash : (A → A → Bool) → List A → List A → ℕ
  first_clash f earlier [] = 0
  first_clash f earlier (x ∷ xs) = cond (all (λ y. f y x) earlier) (suc (first_clash f (x ∷ earlier) xs)) 0

  -- the elements that pass, in order
  unfoldable pub keep : (A → Bool) → List A → List A
  keep f [] = []
  keep f (x ∷ xs) = cond (f x) (x ∷ keep f xs) (keep f xs)

  -- the first element that passes, or else d
  unfoldable pub first : (A → Bool) → A → List A → A
  first f d [] = d
  first f d (x ∷ xs) = cond (f x) x (first f d xs)
