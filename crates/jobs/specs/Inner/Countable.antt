-- What only the contracts of a job's inner functions cite: when what was done can be counted, and the sizes of a job's
-- arrays. Assumes nothing.
use Rattle.std.specs.Prelude.{ℕ, ◌-◌, ◌≤◌}
use Rattle.std.specs.Result.{IfOk}
use Rattle.rules.specs.Answers.{Answer}
use Rattle.job_parts.specs.Inner.Parts.{Sized}
use Rattle.jobs.specs.declared.Job.{Job}

-- no job has more steps
abbrev pub most_steps : ℕ
most_steps = 8202

-- of a job with so many steps done, what was done can be counted
abbrev pub Countable : ℕ → Answer ℕ → Type 0
Countable done did = IfOk did (λ n. n ≤ most_steps - done)

-- the arrays of a job have their lengths
pub record Arrays (j : Job) : Type 0 where
  pub first : Sized j.first j.places j.value
  pub second : Sized j.second j.places j.value
