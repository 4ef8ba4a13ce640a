-- Steps counted over bytes, by what the count of the job that they hold answered. Assumes nothing.
use mathlib.Core.Path.{◌≡◌, refl, ◌∙◌}
use mathlib.Core.List.{List}
use Prim.Native.Nat.{ℕ}
use Rattle.rules.specs.Answers.{Answer, refused, given, ◌>>=◌}
use Rattle.jobs.specs.Jobs.{steps_left, counted}
use Rattle.jobs.specs.declared.Job.{Job}
use Rattle.job_bytes.specs.Form.{decoded}
use Rattle.held_jobs.specs.Running.{bytes_after, CountedOver}
use Rattle.held_jobs.proofs.Advancing.{held}
use Rattle.codes.specs.Answered.{number, kept}
use Rattle.runs_for_c.specs.Counted.{counts, Counted}

module _ (n : ℕ) (bs bs' : List ℕ) (told : ℕ) (r : Answer ℕ) where
  pub count_told : CountedOver n bs bs' r (decoded bs) → Counted n (number r) bs bs' told (kept (λ k. k) r told)
  unfolding counts CountedOver bytes_after number kept
  count_told h = from (decoded bs) refl h
    where
      from : (a : Answer Job) → decoded bs ≡ a → CountedOver n bs bs' r a
          → Counted n (number r) bs bs' told (kept (λ k. k) r told)
      from (refused why) d (e, b) = record {
        returned = rw (d, e);
        bytes_left = b ∙ rw d;
        job_left = rw (b, d);
        told_left = rw (d, e);
      }
      from (given j) d h =
          let same = (held bs j d).1 in
          let did : r ≡ counted (steps_left j) n = h.did ∙ rw same in
          record {
            returned = rw (d, did);
            bytes_left = h.bytes ∙ rw (d, did);
            job_left = h.holds ∙ rw (d, same);
            told_left = rw (d, did);
          }
