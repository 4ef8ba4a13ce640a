-- What C is told of the job that bytes hold: the number returned, and what each lent number is afterwards. Before and
-- after stand side by side. Assumes nothing.
use Rattle.std.specs.Prelude.{◌≡◌, List, ℕ}
use Rattle.jobs.specs.Jobs.{steps_left, next_of}
use Rattle.job_bytes.specs.Form.{decoded}
use Rattle.codes.specs.Answered.{number, kept}
use Rattle.codes.specs.StepNumbers.{step_kind, step_address, step_byte}

-- how many steps remain
pub record RemainingTold (bytes : List ℕ) (r count count' : ℕ) : Type 0 where
  pub returned : r ≡ number (decoded bytes)
  pub count_left : count' ≡ kept steps_left (decoded bytes) count

-- which step comes next
pub record NextTold (bytes : List ℕ) (r kind kind' address address' byte byte' : ℕ) : Type 0 where
  pub returned : r ≡ number (decoded bytes)
  pub kind_left : kind' ≡ kept (λ j. step_kind (next_of j)) (decoded bytes) kind
  pub address_left : address' ≡ kept (λ j. step_address (next_of j)) (decoded bytes) address
  pub byte_left : byte' ≡ kept (λ j. step_byte (next_of j)) (decoded bytes) byte
