-- What a run leaves in all that is lent to it. Assumes nothing.
use Rattle.std.specs.Prelude.{◌≡◌, List, ℕ}
use Rattle.rules.specs.Answers.{Answer, refused, given, ◌>>=◌, number_of}
use Rattle.rules.specs.Cuts.{Progress, run}
use Rattle.jobs.specs.Jobs.{admitted, steps_done, advanced}
use Rattle.jobs.specs.declared.Job.{Job}
use Rattle.job_bytes.specs.Form.{decoded}
use Rattle.held_jobs.specs.Running.{bytes_after}

-- the bytes of the job, the image, and the number of steps told
pub record Lent : Type 0 where
  pub job : List ℕ
  pub image : List ℕ
  pub done : ℕ

abbrev pub lent : List ℕ → List ℕ → ℕ → Lent
lent job image done = record { job = job; image = image; done = done }

-- a job and its progress on an image
pub record Running : Type 0 where
  pub job : Job
  pub progress : Progress

-- refused 90, 11 or 12, or a job that may run
unfoldable pub running : List ℕ → List ℕ → Answer Running
running bytes img = decoded bytes >>= λ j. admitted j img >>= λ p. given (record { job = j; progress = p })

-- a refusal leaves all as it was; else the steps are done in the image, counted, and left out of the job, of whose bytes
-- only the number of steps done changes
unfoldable pub RanAs : ℕ → ℕ → Lent → Lent → Answer Running → Type 0
RanAs r budget before after (refused why) = (r ≡ number_of why) × (after ≡ before)
RanAs r budget before after (given w) =
    (r ≡ 0)
    × ((decoded after.job ≡ given (advanced w.job (steps_done budget w.progress)))
    × ((after.image ≡ (run w.job.plan.granule budget w.progress).image)
    × ((after.done ≡ steps_done budget w.progress)
    × (after.job ≡ bytes_after before.job (given (steps_done budget w.progress))))))
