-- One turn and the end of a loop that follows `all`, `find`, `member` or `keep` down a list. Here `xs` is
-- what is left to walk. Assumes nothing.
use mathlib.Core.Path.{◌≡◌}
use mathlib.Core.Bool.{Bool, true, false, cond}
use mathlib.Core.List.{List, [], ◌∷◌}
use Prim.Native.Nat.{ℕ, suc, ◌+◌}
use native.Mathlib.Omega.{arith}
use lib.ListN.{length}
use borrow.Author.Tests.{eq-eqb, ne_eqb}
use Rattle.rules.specs.Lists.{all, keep, member}
use Rattle.rules.proofs.Lists.Tests.{by_cases}
use Rattle.walks.specs.Find.{find}

module _ {A : Type 0} {xs : List A} where
  module _ (f : A → Bool) where
    pub all_over : xs ≡ [] → all f xs ≡ true
    unfolding all
    all_over e = rw e

    pub find_over : xs ≡ [] → find f xs ≡ 0
    unfolding find
    find_over e = rw e

    pub keep_over : xs ≡ [] → length (keep f xs) ≡ 0
    unfolding keep
    keep_over e = rw e

  module _ (f : A → Bool) {x : A} {rest : List A} where
    pub all_fails : xs ≡ x ∷ rest → f x ≡ false → all f xs ≡ false
    unfolding all
    all_fails e h = rw (e, h)

    pub all_goes : xs ≡ x ∷ rest → f x ≡ true → all f xs ≡ all f rest
    unfolding all
    all_goes e h = rw (e, h)

    pub find_here : xs ≡ x ∷ rest → f x ≡ true → find f xs ≡ 0
    unfolding find
    find_here e h = rw (e, h)

    pub find_goes : xs ≡ x ∷ rest → f x ≡ false → find f xs ≡ suc (find f rest)
    unfolding find
    find_goes e h = rw (e, h)

    -- one turn of a count
    pub keep_turn : xs ≡ x ∷ rest → length (keep f xs) ≡ cond (f x) 1 0 + length (keep f rest)
    unfolding keep
    keep_turn e = by_cases (f x) (λ t. rw (e, t) (omega arith)) (λ t. rw (e, t) (omega arith))

module _ {xs rest : List ℕ} {x : ℕ} (a : ℕ) where
  pub member_here : xs ≡ x ∷ rest → a ≡ x → member a xs ≡ true
  unfolding member
  member_here e h = rw (e, eq-eqb a x h)

  pub member_goes : xs ≡ x ∷ rest → (a ≡ x → ⊥) → member a xs ≡ member a rest
  unfolding member
  member_goes e h = rw (e, ne_eqb a x h)
