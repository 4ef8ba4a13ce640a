-- `any` and `first` by the place that a search finds. Assumes nothing.
use mathlib.Core.Path.{◌≡◌, refl}
use mathlib.Core.Bool.{Bool}
use mathlib.Core.List.{List, [], ◌∷◌}
use Prim.Native.Nat.{ℕ, suc}
use lib.Dec.{ltb, leb-suc-suc, leb-zero}
use lib.ListN.{length, get_or}
use Rattle.rules.specs.Lists.{any, first}
use Rattle.rules.proofs.Lists.Tests.{by_cases}
use Rattle.walks.specs.Find.{find}

module _ {A : Type 0} where
  pub any-find : (f : A → Bool) (xs : List A) → any f xs ≡ ltb (find f xs) (length xs)
  unfolding any find
  any-find f [] = refl
  any-find f (x ∷ xs) =
      by_cases (f x)
      (λ t. rw (t, leb-suc-suc 0 (length xs), leb-zero))
      (λ t. rw (t, any-find f xs, leb-suc-suc (suc (find f xs)) (length xs)))

  pub first-find : (f : A → Bool) (d : A) (xs : List A) → first f d xs ≡ get_or xs (find f xs) d
  unfolding first find
  first-find f d [] = refl
  first-find f d (x ∷ xs) = by_cases (f x) (λ t. rw t) (λ t. rw (t, first-find f d xs))
