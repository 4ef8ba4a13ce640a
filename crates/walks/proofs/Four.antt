-- Four turns of a walk at once: where none of the four passes, what is left to walk decides. Assumes nothing.
use mathlib.Core.Path.{◌≡◌, ◌∙◌}
use mathlib.Core.Bool.{Bool, false, ◌||◌}
use Prim.Native.Nat.{ℕ, ◌+◌, ◌≤◌, ◌<◌}
use native.Mathlib.Omega.{arith}
use Rattle.rules.proofs.Lists.Tests.{or_false}
use Rattle.walks.specs.Four.{one_of_four}

-- `left i` is what the walk has left to tell at i
pub four_turns : {B : Type 0} (left : ℕ → B) (f : ℕ → Bool) (n : ℕ)
    → ((i : ℕ) → i < n → f i ≡ false → left i ≡ left (i + 1))
    → (i : ℕ) → i + 4 ≤ n → one_of_four f i ≡ false → left i ≡ left (i + 4)
unfolding one_of_four
four_turns left f n turn i h none =
    let (abc, d) = or_false (f i || f (i + 1) || f (i + 2)) (f (i + 3)) none in
    let (ab, c) = or_false (f i || f (i + 1)) (f (i + 2)) abc in
    let (a, b) = or_false (f i) (f (i + 1)) ab in
    to i (i + 1) (omega arith) (omega arith) a
    ∙ to (i + 1) (i + 2) (omega arith) (omega arith) b
    ∙ to (i + 2) (i + 3) (omega arith) (omega arith) c
    ∙ to (i + 3) (i + 4) (omega arith) (omega arith) d
  where
    to : (j k : ℕ) → k ≡ j + 1 → j < n → f j ≡ false → left j ≡ left k
    to j k e within fails = rw e (turn j within fails)
