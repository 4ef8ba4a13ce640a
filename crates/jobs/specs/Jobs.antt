-- The list of steps that a job value denotes, and what a run of it answers and leaves. Assumes nothing.
use Rattle.std.specs.Prelude.{◌≡◌, List, ℕ, zero, suc, ◌+◌, min, take, drop, length, Option}
use Rattle.rules.specs.Answers.{Answer, refused, given}
use Rattle.rules.specs.Cuts.{Progress, run, may_run}
use Rattle.rules.specs.declared.Step.{Step}
pub use Rattle.part_steps.specs.Parts.{place_room, meant}
unfoldable pub use Rattle.part_steps.specs.Parts.{numbers_from, first_step}
unfoldable pub use Rattle.job_parts.specs.Listed.{part, listed}
use Rattle.job_parts.specs.declared.Plan.{Plan}
use Rattle.jobs.specs.declared.Job.{Job}
use Rattle.rules.specs.declared.Refusal.TheVariants.{NoStepsLeft}

-- the steps that a job denotes: those listed, less the ones done
unfoldable pub steps_of : Job → List Step
steps_of j = drop j.done (listed j.plan j.first j.second j.places j.value)

-- ---- a run

-- a job and the image that it is run on
unfoldable pub under_way : Job → List ℕ → Progress
under_way j img = record { image = img; left = steps_of j }

-- refusals 11 and 12, or leave to run
unfoldable pub admitted : Job → List ℕ → Answer Progress
admitted j img = may_run j.plan.granule j.plan.len (under_way j img)

-- "that many steps or all that remain"
unfoldable pub steps_done : ℕ → Progress → ℕ
steps_done budget p = length (take budget p.left)

-- the job with n more steps done
abbrev pub advanced : Job → ℕ → Job
advanced j n = record {
  plan = j.plan;
  done = j.done + n;
  first = j.first;
  second = j.second;
  places = j.places;
  value = j.value;
}

-- what a call leaves and answers: the job, and so many steps or a refusal
pub record Ran : Type 0 where
  pub job : Job
  pub did : Answer ℕ

abbrev pub after_call : Job → Answer ℕ → Ran
after_call j did = record { job = j; did = did }

-- the same by what was done: on a refusal the job stays
abbrev pub returned : Job → Answer ℕ → Ran
returned j (refused why) = after_call j (refused why)
returned j (given n) = after_call (advanced j n) (given n)

-- what a run leaves and answers
unfoldable pub ran : Job → ℕ → Answer Progress → Ran
ran j budget (refused why) = returned j (refused why)
ran j budget (given p) = returned j (given (steps_done budget p))

-- the image after a run and the steps that the job then denotes: on a refusal both stay
unfoldable pub progress_after : Job → ℕ → List ℕ → Answer Progress → Progress
progress_after j budget img (refused why) = under_way j img
progress_after j budget img (given p) = run j.plan.granule budget p

-- a run of a job on an image leaves and answers r, and leaves the image img'
unfoldable pub RanBy : Job → ℕ → List ℕ → Ran → List ℕ → Type 0
RanBy j budget img r img' =
    (r ≡ ran j budget (admitted j img))
    × (under_way r.job img' ≡ progress_after j budget img (admitted j img))

-- ---- a run of a job whose arrays are lent

-- that job
abbrev pub lent : Plan → ℕ → List ℕ → List ℕ → List ℕ → List ℕ → Job
lent p done b0 b1 ks v = record { plan = p; done = done; first = b0; second = b1; places = ks; value = v }

-- what a run says it did
abbrev pub did_by_run : Job → ℕ → List ℕ → Answer ℕ
did_by_run j budget img = (ran j budget (admitted j img)).did

-- the image that it leaves
abbrev pub image_after_run : Job → ℕ → List ℕ → List ℕ
image_after_run j budget img = (progress_after j budget img (admitted j img)).image

-- ---- what remains

unfoldable pub steps_left : Job → ℕ
steps_left j = length (steps_of j)

unfoldable pub next_of : Job → Option Step
next_of j = first_step (steps_of j)

-- ---- steps carried out elsewhere

-- what is answered to n of them, of so many steps that remain: refused 11 where none do, else that number or all
unfoldable pub counted : ℕ → ℕ → Answer ℕ
counted zero n = refused NoStepsLeft
counted (suc left) n = given (min n (suc left))

-- what counting them leaves and answers
unfoldable pub counting : Job → ℕ → Ran
counting j n = returned j (counted (steps_left j) n)
