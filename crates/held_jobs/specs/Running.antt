-- What a run of a job, or a count of steps carried out elsewhere, leaves in the bytes that hold it. Assumes nothing.
use Rattle.std.specs.Prelude.{◌≡◌, List, ℕ, ◌+◌}
use Rattle.rules.specs.Bytes.{bytes_of, field}
use Rattle.rules.specs.Answers.{Answer, refused, given}
use Rattle.rules.specs.Final.{put_at}
use Rattle.jobs.specs.Jobs.{admitted, ran, did_by_run, image_after_run, steps_left, counted, counting}
use Rattle.jobs.specs.declared.Job.{Job}
use Rattle.job_bytes.specs.Form.{done_at, job_from, decoded}

-- the number of steps done is the only one that changes
unfoldable pub bytes_after : List ℕ → Answer ℕ → List ℕ
bytes_after bs (refused why) = bs
bytes_after bs (given n) = put_at done_at (bytes_of 8 (field done_at 8 bs + n)) bs

-- what the run of the job says and leaves; every byte of the buffer afterwards, and the job that it holds
pub record RanHere (budget : ℕ) (bs img bs' img' : List ℕ) (r : Answer ℕ) : Type 0 where
  pub did : r ≡ did_by_run (job_from bs) budget img
  pub image : img' ≡ image_after_run (job_from bs) budget img
  pub bytes : bs' ≡ bytes_after bs r
  pub holds : decoded bs' ≡ given (ran (job_from bs) budget (admitted (job_from bs) img)).job

-- what counting n steps of the job says; every byte of the buffer afterwards, and the job that it holds
pub record CountedHere (n : ℕ) (bs bs' : List ℕ) (r : Answer ℕ) : Type 0 where
  pub did : r ≡ counted (steps_left (job_from bs)) n
  pub bytes : bs' ≡ bytes_after bs r
  pub holds : decoded bs' ≡ given (counting (job_from bs) n).job

-- the same of bytes that hold a job; of others the refusal, and all as it was
unfoldable pub RanOver : ℕ → List ℕ → List ℕ → List ℕ → List ℕ → Answer ℕ → Answer Job → Type 0
RanOver budget bs img bs' img' r (refused why) = (r ≡ refused why) × ((bs' ≡ bs) × (img' ≡ img))
RanOver budget bs img bs' img' r (given j) = RanHere budget bs img bs' img' r

unfoldable pub CountedOver : ℕ → List ℕ → List ℕ → Answer ℕ → Answer Job → Type 0
CountedOver n bs bs' r (refused why) = (r ≡ refused why) × (bs' ≡ bs)
CountedOver n bs bs' r (given j) = CountedHere n bs bs' r
