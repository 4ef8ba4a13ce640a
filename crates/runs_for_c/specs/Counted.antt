-- What a count of steps that were carried out elsewhere leaves in all that is lent to it. Assumes nothing.
use Rattle.std.specs.Prelude.{◌≡◌, List, ℕ}
use Rattle.rules.specs.Answers.{Answer, given, ◌>>=◌}
use Rattle.jobs.specs.Jobs.{steps_left, counted, counting}
use Rattle.job_bytes.specs.Form.{decoded}
use Rattle.held_jobs.specs.Running.{bytes_after}
use Rattle.codes.specs.Answered.{number, kept}

-- refused 90 or 11, or how many of n steps are counted
unfoldable pub counts : List ℕ → ℕ → Answer ℕ
counts bytes n = decoded bytes >>= λ j. counted (steps_left j) n

-- what is returned, every byte of the buffer, the job that it holds, and the number told
pub record Counted (n r : ℕ) (bytes bytes' : List ℕ) (told told' : ℕ) : Type 0 where
  pub returned : r ≡ number (counts bytes n)
  pub bytes_left : bytes' ≡ bytes_after bytes (counts bytes n)
  pub job_left : decoded bytes' ≡ (decoded bytes >>= λ j. given (counting j n).job)
  pub told_left : told' ≡ kept (λ k. k) (counts bytes n) told
