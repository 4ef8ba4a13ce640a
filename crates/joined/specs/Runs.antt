-- Runs of a job one after the other, as their caller sees them. Assumes nothing.
use Rattle.std.specs.Prelude.{List, [], ◌∷◌, ℕ}
use Rattle.rules.specs.Cuts.{Progress}
use Rattle.jobs.specs.Jobs.{Ran, under_way, RanBy}
use Rattle.jobs.specs.declared.Job.{Job}

-- a call of `Job::run`: its budget, what it left of the job and answered, and the image that it left
pub record Run : Type 0 where
  pub budget : ℕ
  pub returned : Ran
  pub image : List ℕ

-- each run is as the contract of `Job::run` says, with the job and on the image that the last one left
unfoldable pub AllRan : Job → List ℕ → List Run → Type 0
AllRan j img [] = Unit {0}
AllRan j img (r ∷ rs) =
    RanBy j r.budget img r.returned r.image × AllRan r.returned.job r.image rs

-- the image that the last run left, and the steps that its job then denotes
unfoldable pub left_by_runs : Job → List ℕ → List Run → Progress
left_by_runs j img [] = under_way j img
left_by_runs j img (r ∷ rs) = left_by_runs r.returned.job r.image rs
