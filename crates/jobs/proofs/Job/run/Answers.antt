-- `run` does what the definition of a run does, for every job. Assumes nothing.
use mathlib.Core.Path.{sym, ◌∙◌}
use Rattle.std.proofs.lemmas.Result.{err_from_is_err_and}
use Rattle.rules.specs.Answers.{refused, given}
use Rattle.jobs.proofs.Running.{run_returned}
use Rattle.jobs.proofs.Job.run.Goals as goal

pub returns-in_err-n : goal.returns-in_err-n
returns-in_err-n c =
    let a = c.args in
    let p = err_from_is_err_and c.from_residual.result c.from_residual.ensures.1 in
    rw (p.1, p.2)
    (run_returned a.self.now a.image.now a.budget (refused c.in_err-n.field-0.0) c.run.new.image
    (sym c.in_err-n.was ∙ c.run.ensures.0.0 ∙ rw c.lent.ensures) (c.run.ensures.1 ∙ rw c.lent.ensures))

pub returns : goal.returns
returns c =
    let a = c.args in
    run_returned a.self.now a.image.now a.budget (given c.in_ok-n.n) c.run.new.image
    (sym c.in_ok-n.was ∙ c.run.ensures.0.0 ∙ rw c.lent.ensures) (c.run.ensures.1 ∙ rw c.lent.ensures)
