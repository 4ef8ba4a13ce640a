-- Counting n steps leaves the same job as a run of n steps that is not refused 12; a driver that asks and counts goes
-- through the listed steps in their order. Assumes nothing.
use mathlib.Core.Path.{◌≡◌, refl, sym}
use mathlib.Core.Bool.{Bool, true, false, ◌&&◌}
use mathlib.Core.List.{List, [], ◌∷◌}
use Prim.Native.Nat.{ℕ, zero, suc, min}
use native.Mathlib.Omega.{arith}
use lib.Dec.{eqb, ltb}
use lib.ListN.{length, length-take}
use borrow.Author.Tests.{lt-ltb}
use Rattle.rules.specs.Lists.{all}
use Rattle.rules.specs.Answers.{refused, given, unless}
use Rattle.rules.specs.Cuts.{Progress, inside, may_run}
use Rattle.rules.specs.declared.Step.{Step}
use Rattle.jobs.specs.Jobs.{steps_of, under_way, admitted, steps_done, returned, ran, steps_left, first_step, next_of, counted, counting}
use Rattle.jobs.specs.declared.Job.{Job}
use Rattle.std.specs.Prelude.{Some, None}
use Rattle.jobs.proofs.Running.{steps_advanced}
use Rattle.rules.specs.declared.Refusal.TheVariants.{NoStepsLeft, OutsideImage}

pub counts_none : (left n : ℕ) → left ≡ 0 → refused NoStepsLeft ≡ counted left n
unfolding counted
counts_none left n e = rw e

pub counts_some : (left n : ℕ) → (left ≡ 0 → ⊥) → given (min n left) ≡ counted left n
unfolding counted
counts_some zero n h = absurd (h refl)
counts_some (suc left) n h = refl

-- the same by the tests of a run
as_run : (j : Job) (n left : ℕ) (p : Progress) (fits : Bool)
    → left ≡ length p.left
    → (ltb 0 left ≡ true → fits ≡ false → ⊥)
    → returned j (counted left n) ≡ ran j n (unless NoStepsLeft (ltb 0 (length p.left)) (unless OutsideImage fits (given p)))
unfolding unless ran steps_done
as_run j n zero p fits e not_12 = rw (← e, ← counts_none zero n refl)
as_run j n (suc left) p fits e not_12 =
    let some = lt-ltb 0 (suc left) (omega arith) in
    rw (← e, some, ← counts_some (suc left) n (λ z. omega arith)) (fitting fits (not_12 some))
  where
    fitting : (t : Bool) → (t ≡ false → ⊥)
        → returned j (given (min n (suc left))) ≡ ran j n (unless OutsideImage t (given p))
    fitting false not_so = absurd (not_so refl)
    fitting true not_so = rw (length-take, ← e)

pub counted_as_run : (j : Job) (n : ℕ) (img : List ℕ)
    → (admitted j img ≡ refused OutsideImage → ⊥)
    → counting j n ≡ ran j n (admitted j img)
unfolding counting steps_left admitted may_run under_way
counted_as_run j n img not_12 =
    as_run j n (length (steps_of j)) (under_way j img)
    (eqb (length img) j.plan.len && all (inside j.plan.granule (length img)) (steps_of j)) refl
    (λ some f. not_12 (unfold unless in rw (some, f)))

-- ---- a driver that asks for the next step, carries it out and counts it, goes through the listed steps in their order

is_finished : (s : Step) → None ≡ Some s → ⊥
is_finished s e = let z : ◌≡◌ {A = ℕ} 0 1 = cc in omega arith

pub next_counted : (j : Job) (s : Step) → next_of j ≡ Some s → steps_of j ≡ s ∷ steps_of (counting j 1).job
unfolding next_of first_step counting counted steps_left
next_counted j s = from (steps_of j) refl
  where
    from : (ss : List Step) → steps_of j ≡ ss → first_step ss ≡ Some s
        → ss ≡ s ∷ steps_of (returned j (counted (length ss) 1)).job
    from [] l e = absurd (is_finished s e)
    from (t ∷ ts) l e =
        let same : t ≡ s = cc in
        let one : min 1 (suc (length ts)) ≡ 1 = omega arith in
        rw (one, steps_advanced j 1, l, same)

pub none_next : (j : Job) → next_of j ≡ None → steps_of j ≡ []
unfolding next_of first_step
none_next j = from (steps_of j)
  where
    from : (ss : List Step) → first_step ss ≡ None → ss ≡ []
    from [] e = refl
    from (t ∷ ts) e = absurd (is_finished t (sym e))
