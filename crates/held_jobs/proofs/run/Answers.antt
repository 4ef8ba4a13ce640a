-- `run` runs the job that bytes hold and stores the number of steps done. Assumes nothing.
use mathlib.Core.Path.{refl, sym, ◌∙◌}
use Rattle.std.proofs.lemmas.Result.{err_from_is_err_and}
use Rattle.rules.specs.Answers.{refused, given}
use Rattle.job_bytes.specs.Form.{job_from}
use Rattle.held_jobs.specs.Running.{bytes_after}
use Rattle.held_jobs.proofs.Advancing.{held, none_ran, job_raised, ran_here}
use Rattle.held_jobs.proofs.run.Goals as goal

pub returns-in_err-job_in : goal.returns-in_err-job_in
returns-in_err-job_in c =
    let a = c.args in
    let p = err_from_is_err_and c.from_residual.result c.from_residual.ensures.1 in
    none_ran a.job.now c.in_err-job_in.field-0.0 c.from_residual.result
    (sym c.job_in.ensures ∙ c.in_err-job_in.was) (p.1 ∙ rw p.2) a.image.now a.budget

pub returns-in_err-n : goal.returns-in_err-n
returns-in_err-n c =
    let a = c.args in
    let p = err_from_is_err_and c.from_residual-in_err-n.result c.from_residual-in_err-n.ensures.1 in
    let d = sym c.job_in.ensures ∙ c.in_ok-job_in.was in
    rw (p.1, p.2)
    (ran_here a.job.now c.in_ok-job_in.field-0 d a.job.now a.image.now c.run.new.image a.budget
    (refused c.in_err-n.field-0.0) (sym c.in_err-n.was ∙ c.run.ensures.0.0) c.run.ensures.1 (unfold bytes_after in refl) d)

pub raise_done-requires : goal.raise_done-requires
unfolding job_from
raise_done-requires c =
    let is = held c.args.job.now c.in_ok-job_in.field-0 (sym c.job_in.ensures ∙ c.in_ok-job_in.was) in
    (is.0, rw is.1 at c.in_ok-n.ensures.0.1)

pub returns : goal.returns
returns c =
    let a = c.args in
    let d = sym c.job_in.ensures ∙ c.in_ok-job_in.was in
    ran_here a.job.now c.in_ok-job_in.field-0 d c.raise_done.new.job a.image.now c.run.new.image a.budget
    (given c.in_ok-n.n) (sym c.in_ok-n.was ∙ c.run.ensures.0.0) c.run.ensures.1 c.raise_done.ensures.0
    (job_raised a.job.now c.in_ok-job_in.field-0 d c.in_ok-n.n c.raise_done.new.job c.raise_done.ensures.1)
