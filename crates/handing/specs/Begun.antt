-- What a start for C returns, and what it leaves in the buffer lent for its job. Assumes nothing.
use Rattle.std.specs.Prelude.{◌≡◌, cond, List, ℕ, eqb, length}
use Rattle.rules.specs.Answers.{Answer, refused, given, unless, number_of}
use Rattle.rules.specs.declared.Step.{Step}
use Rattle.jobs.specs.declared.Job.{Job}
use Rattle.blocks.specs.Made.{Lists}
use Rattle.job_bytes.specs.Form.{job_size, malformed, decoded, encoded_over}

-- the number returned, and every byte of the buffer
pub record Handed : Type 0 where
  pub number : ℕ
  pub buffer : List ℕ

abbrev pub handed : ℕ → List ℕ → Handed
handed number buffer = record { number = number; buffer = buffer }

-- a refusal leaves the buffer as it was; else 0, and the job is put into it: what its steps do not use stays
unfoldable pub handed_over : List ℕ → Answer Job → Handed
handed_over before (refused why) = handed (number_of why) before
handed_over before (given j) = handed 0 (encoded_over before j)

-- a command's start over bytes: refused 90 where the buffer has another length than a job's
unfoldable pub started_into : List ℕ → Answer Job → Handed
started_into before a =
    cond (eqb (length before) job_size) (handed_over before a) (handed (number_of malformed) before)

-- ---- the same by the listed steps, as theorem `begun_holds` has it

-- refused 90 where the buffer has another length than a job's
unfoldable pub for_job : List ℕ → Answer (List Step) → Answer (List Step)
for_job bytes a = unless malformed (eqb (length bytes) job_size) a

-- a refusal leaves the buffer as it was; else it holds a job of the listed steps, of which none is done, for an image
-- of this length and with this granule
unfoldable pub BegunAs : ℕ → List ℕ → List ℕ → ℕ → ℕ → Answer (List Step) → Type 0
BegunAs r before after len granule (refused why) = (r ≡ number_of why) × (after ≡ before)
BegunAs r before after len granule (given ss) =
    (r ≡ 0) × ((j : Job) × (decoded after ≡ given j) × Lists j len granule ss)
