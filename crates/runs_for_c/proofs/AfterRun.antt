-- A run over bytes, by what the run of the job that they hold answered. Assumes nothing.
use mathlib.Core.Path.{◌≡◌, refl, ◌∙◌}
use mathlib.Core.List.{List}
use Prim.Native.Nat.{ℕ}
use Rattle.rules.specs.Answers.{Answer, refused, given, ◌>>=◌}
use Rattle.rules.specs.Cuts.{Progress}
use Rattle.jobs.specs.Jobs.{under_way, admitted, steps_done, ran, progress_after, did_by_run, image_after_run}
use Rattle.jobs.specs.declared.Job.{Job}
use Rattle.job_bytes.specs.Form.{job_from, decoded}
use Rattle.held_jobs.specs.Running.{bytes_after, RanHere, RanOver}
use Rattle.held_jobs.proofs.Advancing.{held}
use Rattle.codes.specs.Answered.{number, kept}
use Rattle.runs_for_c.specs.Ran.{Running, lent, running, RanAs}

module _ (budget : ℕ) (bs img bs' img' : List ℕ) (done : ℕ) (r : Answer ℕ) where
  -- the answer as a number, and what all that was lent is afterwards
  abbrev pub Told : Answer Running → Type 0
  Told a = RanAs (number r) budget (lent bs img done) (lent bs' img' (kept (λ n. n) r done)) a

  of_job : (a : Answer Progress) → admitted (job_from bs) img ≡ a → RanHere budget bs img bs' img' r
      → Told (a >>= λ p. given (record { job = job_from bs; progress = p }))
  unfolding RanAs ran progress_after under_way bytes_after number kept
  of_job (refused why) e h =
      let did : r ≡ refused why = h.did ∙ rw (did_by_run, e) in
      let same_img : img' ≡ img = h.image ∙ rw (image_after_run, e) in
      let same_bs : bs' ≡ bs = h.bytes ∙ rw did in
      rw (did, same_img, same_bs) (refl, refl)
  of_job (given q) e h =
      let did : r ≡ given (steps_done budget q) = h.did ∙ rw (did_by_run, e) in
      let bytes : bs' ≡ bytes_after bs (given (steps_done budget q)) = h.bytes ∙ rw did in
      rw did (refl, (h.holds ∙ rw e, (h.image ∙ rw (image_after_run, e), (refl, bytes))))

  pub run_told : RanOver budget bs img bs' img' r (decoded bs) → Told (running bs img)
  unfolding running RanOver RanAs number kept
  run_told h = from (decoded bs) refl h
    where
      from : (a : Answer Job) → decoded bs ≡ a → RanOver budget bs img bs' img' r a
          → Told (a >>= λ j. admitted j img >>= λ p. given (record { job = j; progress = p }))
      from (refused why) d (e, (b, i)) = rw (e, b, i) (refl, refl)
      from (given j) d here = rw (held bs j d).1 (of_job (admitted (job_from bs) img) refl here)
