-- Tests joined as code joins them, by `&` and `|` from left to right. Assumes nothing.
use mathlib.Core.Path.{◌≡◌, refl, sym, ◌∙◌}
use mathlib.Core.Bool.{Bool, true, false, not, ◌&&◌, ◌||◌}
use mathlib.Core.List.{List, [], ◌∷◌}
use Prim.Native.Nat.{ℕ, zero, suc, ◌≤◌, ◌<◌}
use native.Mathlib.Omega.{arith}
use lib.Dec.{leb}
use lib.ListN.{length, take, drop}
use borrow.Author.Tests.{le-leb, lt-leb, leb-true, leb-false, not-true, not-false}
use Rattle.rules.specs.Lists.{same, all, any}
use Rattle.rules.proofs.Lists.Tests.{by_cases}

pub and_assoc : (a b c : Bool) → a && b && c ≡ a && (b && c)
and_assoc true b c = refl
and_assoc false b c = refl

pub and_with_true : (a : Bool) → a && true ≡ a
and_with_true true = refl
and_with_true false = refl

pub and_with_false : (a : Bool) → a && false ≡ false
and_with_false true = refl
and_with_false false = refl

pub or_assoc : (a b c : Bool) → a || b || c ≡ a || (b || c)
or_assoc true b c = refl
or_assoc false b c = refl

pub or_with_false : (a : Bool) → a || false ≡ a
or_with_false true = refl
or_with_false false = refl

-- two tests of order that pass together
pub leb_cong : (a b c d : ℕ) → (a ≤ b → c ≤ d) → (b < a → d < c) → leb a b ≡ leb c d
leb_cong a b c d f g =
    by_cases (leb a b)
    (λ t. t ∙ sym (le-leb c d (f (leb-true a b t))))
    (λ t. t ∙ sym (lt-leb c d (g (leb-false a b t))))

-- what `if !test() { return false; }` tells of the test's definition, in the branch and past it
pub failed : {r t : Bool} → r ≡ t → not r ≡ true → t ≡ false
failed {r} e h = sym e ∙ not-true r h

pub passed : {r t : Bool} → r ≡ t → not r ≡ false → t ≡ true
passed {r} e h = sym e ∙ not-false r h

-- a rule for each of a few
module _ {A : Type 0} (f : A → Bool) (x y z w : A) where
  pub all_six : (u v : A) → all f (x ∷ y ∷ z ∷ w ∷ u ∷ v ∷ []) ≡ f x && f y && f z && f w && f u && f v
  unfolding all
  all_six u v = simp (and_assoc, and_with_true)

  pub any_six : (u v : A) → any f (x ∷ y ∷ z ∷ w ∷ u ∷ v ∷ []) ≡ f x || f y || f z || f w || f u || f v
  unfolding any
  any_six u v = simp (or_assoc, or_with_false)

-- two lists compared are their fronts compared and the rests
pub same_parts : (n : ℕ) (a b : List ℕ) → length a ≡ length b
    → same a b ≡ same (take n a) (take n b) && same (drop n a) (drop n b)
unfolding same
same_parts zero a b h = refl
same_parts (suc n) [] [] h = refl
same_parts (suc n) [] (y ∷ b) h = absurd (omega arith)
same_parts (suc n) (x ∷ a) [] h = absurd (omega arith)
same_parts (suc n) (x ∷ a) (y ∷ b) h = rw (same_parts n a b (omega arith), and_assoc)
