-- `advance` counts steps of the job that bytes hold. Assumes nothing.
use mathlib.Core.Path.{refl, sym, ◌∙◌}
use Rattle.std.proofs.lemmas.Result.{err_from_is_err_and}
use Rattle.rules.specs.Answers.{refused, given}
use Rattle.job_bytes.specs.Form.{job_from}
use Rattle.held_jobs.specs.Running.{bytes_after}
use Rattle.held_jobs.proofs.Advancing.{held, none_counted, job_raised, counted_here}
use Rattle.held_jobs.proofs.advance.Goals as goal

pub returns-in_err-job_in : goal.returns-in_err-job_in
returns-in_err-job_in c =
    let a = c.args in
    let p = err_from_is_err_and c.from_residual.result c.from_residual.ensures.1 in
    none_counted a.job.now c.in_err-job_in.field-0.0 c.from_residual.result
    (sym c.job_in.ensures ∙ c.in_err-job_in.was) (p.1 ∙ rw p.2) a.n

pub returns-in_err-counted : goal.returns-in_err-counted
returns-in_err-counted c =
    let a = c.args in
    let p = err_from_is_err_and c.from_residual-in_err-counted.result c.from_residual-in_err-counted.ensures.1 in
    let d = sym c.job_in.ensures ∙ c.in_ok-job_in.was in
    rw (p.1, p.2)
    (counted_here a.job.now c.in_ok-job_in.field-0 d a.job.now a.n (refused c.in_err-counted.field-0.0)
    (sym c.in_err-counted.was ∙ c.count.ensures.0) (unfold bytes_after in refl) d)

pub raise_done-requires : goal.raise_done-requires
unfolding job_from
raise_done-requires c =
    let is = held c.args.job.now c.in_ok-job_in.field-0 (sym c.job_in.ensures ∙ c.in_ok-job_in.was) in
    (is.0, rw is.1 at c.in_ok-counted.ensures.1)

pub returns : goal.returns
returns c =
    let a = c.args in
    let d = sym c.job_in.ensures ∙ c.in_ok-job_in.was in
    counted_here a.job.now c.in_ok-job_in.field-0 d c.raise_done.new.job a.n (given c.in_ok-counted.counted)
    (sym c.in_ok-counted.was ∙ c.count.ensures.0) c.raise_done.ensures.0
    (job_raised a.job.now c.in_ok-job_in.field-0 d c.in_ok-counted.counted c.raise_done.new.job c.raise_done.ensures.1)
