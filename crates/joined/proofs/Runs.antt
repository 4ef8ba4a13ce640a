-- Runs as the contract of `Job::run` has them, each with the job and on the image that the last one left, come to the
-- book's runs. Assumes nothing.
use mathlib.Core.Path.{◌≡◌, refl, sym, ap, ◌∙◌}
use mathlib.Core.List.{List, [], ◌∷◌, map}
use Prim.Native.Nat.{ℕ, zero, suc}
use native.Mathlib.Omega.{arith}
use lib.Dec.{ltb}
use borrow.Author.Tests.{lt-ltb}
use lib.ListN.{length}
use Rattle.rules.specs.Answers.{Answer, refused, given, unless}
use Rattle.rules.specs.Steps.{steps}
use Rattle.rules.specs.Cuts.{Progress, run, may_run, runs}
use Rattle.rules.specs.declared.Step.{Step}
use Rattle.rules.proofs.Steps.Cutting.{under_way as started_with}
use Rattle.jobs.specs.Jobs.{Ran, steps_of, under_way, admitted, ran, progress_after, RanBy}
use Rattle.jobs.specs.declared.Job.{Job}
use Rattle.job_parts.specs.declared.Plan.{Plan}
use Rattle.blocks.specs.Made.{Lists}
use Rattle.joined.specs.Runs.{Run, AllRan, left_by_runs}
use Rattle.rules.specs.declared.Refusal.TheVariants.{NoStepsLeft}

abbrev pub budgets_of : List Run → List ℕ
budgets_of rs = map (λ (r : Run). r.budget) rs

-- whatever the budgets were, only refusal 11 is given
abbrev OnlyRefused11 : ℕ → ℕ → Progress → Type 0
OnlyRefused11 g len p = (ns : List ℕ)
    → may_run g len (runs g ns p) ≡ unless NoStepsLeft (ltb 0 (length (runs g ns p).left)) (given (runs g ns p))

-- a run keeps the plan of its job
plan_kept : (j : Job) (n : ℕ) (a : Answer Progress) → (ran j n a).job.plan ≡ j.plan
unfolding ran
plan_kept j n (refused why) = refl
plan_kept j n (given p) = refl

run_of_none : (g n : ℕ) (img : List ℕ) → run g n (started_with img []) ≡ started_with img []
unfolding run steps
run_of_none g zero img = refl
run_of_none g (suc n) img = refl

-- one run that is at most refused 11
one_run : (j : Job) (img : List ℕ) (n : ℕ)
    → admitted j img ≡ unless NoStepsLeft (ltb 0 (length (under_way j img).left)) (given (under_way j img))
    → progress_after j n img (admitted j img) ≡ run j.plan.granule n (under_way j img)
unfolding progress_after under_way unless
one_run j img n a = by_left (steps_of j) refl
  where
    by_left : (l : List Step)
        → steps_of j ≡ l
        → progress_after j n img (admitted j img) ≡ run j.plan.granule n (started_with img (steps_of j))
    by_left [] e = rw (a, e, e) (sym (run_of_none j.plan.granule n img))
    by_left (s ∷ l) e = rw (a, e, lt-ltb 0 (suc (length l)) (omega arith))

module _ (g len : ℕ) where
  from_progress : (rs : List Run) (j : Job) (img : List ℕ) (p : Progress)
      → under_way j img ≡ p
      → j.plan.len ≡ len
      → j.plan.granule ≡ g
      → OnlyRefused11 g len p
      → AllRan j img rs
      → left_by_runs j img rs ≡ runs g (budgets_of rs) p
  unfolding left_by_runs AllRan RanBy runs
  from_progress [] j img p e same_len same_granule only went = e
  from_progress (r ∷ rs) j img p e same_len same_granule only ((returned, after), rest) =
      let plan : r.returned.job.plan ≡ j.plan =
      ap (λ (x : Ran). x.job.plan) returned ∙ plan_kept j r.budget (admitted j img) in
      let may : admitted j img ≡ unless NoStepsLeft (ltb 0 (length (under_way j img).left)) (given (under_way j img)) =
      unfold admitted in rw (e, same_len, same_granule) (only []) in
      let went : under_way r.returned.job r.image ≡ run g r.budget p =
      after ∙ one_run j img r.budget may ∙ rw (e, same_granule) in
      from_progress rs r.returned.job r.image (run g r.budget p) went
      (ap (λ (q : Plan). q.len) plan ∙ same_len) (ap (λ (q : Plan). q.granule) plan ∙ same_granule)
      (λ ns. only (r.budget ∷ ns)) rest

-- of a job that lists these steps, none of them done, runs leave the image and the steps that the book's runs leave
pub runs_of_job : (g : ℕ) (ss : List Step) (j : Job) (img : List ℕ) (rs : List Run)
    → Lists j (length img) g ss
    → OnlyRefused11 g (length img) (started_with img ss)
    → AllRan j img rs
    → left_by_runs j img rs ≡ runs g (budgets_of rs) (started_with img ss)
unfolding under_way
runs_of_job g ss j img rs lists only =
    from_progress g (length img) rs j img (started_with img ss) (rw lists.steps) lists.same_len
    lists.same_granule only
