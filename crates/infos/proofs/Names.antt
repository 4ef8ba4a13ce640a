-- A name is the front of its field. Assumes nothing.
use mathlib.Core.Path.{◌≡◌, refl, ap}
use mathlib.Core.List.{List, [], ◌∷◌}
use Prim.Native.Nat.{ℕ}
use lib.Dec.{eqb}
use lib.ListN.{length, take}
use Rattle.rules.specs.Bytes.{up_to_zero}
use Rattle.rules.proofs.Lists.Tests.{by_cases}

pub name_in_front : (bs : List ℕ) → take (length (up_to_zero bs)) bs ≡ up_to_zero bs
unfolding up_to_zero
name_in_front [] = refl
name_in_front (b ∷ bs) =
    by_cases (eqb b 0) (λ t. rw t) (λ t. rw t (ap (λ (l : List ℕ). b ∷ l) (name_in_front bs)))
