-- Bytes compared, one by one and in stretches: one turn and the end of each loop. Assumes nothing.
use Rattle.std.proofs.Common.{◌≡◌, ℕ, ◌+◌, ◌<◌, ◌≤◌, List, [], ◌∷◌, ◌++◌, Bool, ◌&&◌, refl, length, get_or, drop, drop-cons, add-one, eqb, arith}
use Rattle.std.proofs.Math.ListN.{drop_of_length-le}
use Rattle.rules.specs.Lists.{same, all}
use Rattle.walks.proofs.Joined.{and_assoc, and_with_true}

-- ---- two lists

pub same_turn : (t : Bool) {x y : ℕ} {xs ys xs' ys' : List ℕ} → xs ≡ x ∷ xs' → ys ≡ y ∷ ys'
    → t && eqb x y && same xs' ys' ≡ t && same xs ys
unfolding same
same_turn t e f = rw (e, f, and_assoc)

pub same_over : (t : Bool) (xs ys : List ℕ) → length xs ≡ length ys → length xs ≡ 0 → t && same xs ys ≡ t
unfolding same
same_over t [] [] e f = and_with_true t
same_over t [] (y ∷ ys) e f = absurd (omega arith)
same_over t (x ∷ xs) ys e f = absurd (omega arith)

same_append : (xs ys xs' ys' : List ℕ) → length xs ≡ length ys
    → same (xs ++ xs') (ys ++ ys') ≡ same xs ys && same xs' ys'
unfolding same
same_append [] [] xs' ys' h = refl
same_append [] (y ∷ ys) xs' ys' h = absurd (omega arith)
same_append (x ∷ xs) [] xs' ys' h = absurd (omega arith)
same_append (x ∷ xs) (y ∷ ys) xs' ys' h = rw (same_append xs ys xs' ys' (omega arith), and_assoc)

-- two stretches compared, and what is left
pub same_stretch : {t : Bool} {xs ys : List ℕ} (x y xs' ys' : List ℕ)
    → xs ≡ x ++ xs'
    → ys ≡ y ++ ys'
    → length x ≡ length y
    → t ≡ same x y
    → same xs ys ≡ t && same xs' ys'
same_stretch x y xs' ys' e f l r = rw (e, f, r) (same_append x y xs' ys' l)

-- ---- one list

module _ (p : ℕ → Bool) where
  pub all_turn : (t : Bool) (i : ℕ) (xs : List ℕ) → i < length xs
      → t && p (get_or xs i 0) && all p (drop (i + 1) xs) ≡ t && all p (drop i xs)
  unfolding all
  all_turn t i xs h = rw (drop-cons xs i 0 h, add-one, and_assoc)

  pub all_over : (t : Bool) (i : ℕ) (xs : List ℕ) → length xs ≤ i → t && all p (drop i xs) ≡ t
  unfolding all
  all_over t i xs h = rw (drop_of_length-le xs {i = i} h, and_with_true)

  all_append : (xs ys : List ℕ) → all p (xs ++ ys) ≡ all p xs && all p ys
  unfolding all
  all_append [] ys = refl
  all_append (x ∷ xs) ys = rw (all_append xs ys, and_assoc)

  -- a stretch tested, and what is left
  pub all_stretch : {t : Bool} {xs : List ℕ} (x xs' : List ℕ) → xs ≡ x ++ xs' → t ≡ all p x → all p xs ≡ t && all p xs'
  all_stretch x xs' e r = rw (e, r) (all_append x xs')
