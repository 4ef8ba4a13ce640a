-- `advance` counts steps that were carried out elsewhere. Assumes nothing.
use mathlib.Core.Path.{sym, ap, ◌∙◌}
use Rattle.std.proofs.lemmas.Result.{err_from_is_err_and}
use Rattle.jobs.specs.Jobs.{returned, counting}
use Rattle.jobs.proofs.Job.advance.Goals as goal

pub returns-in_err-counted : goal.returns-in_err-counted
unfolding counting
returns-in_err-counted c =
    let p = err_from_is_err_and c.from_residual.result c.from_residual.ensures.1 in
    rw (p.1, p.2) (ap (returned c.args.self.now) (sym c.in_err-counted.was ∙ c.count.ensures.0 ∙ rw c.lent.ensures))

pub returns : goal.returns
unfolding counting
returns c = ap (returned c.args.self.now) (sym c.in_ok-counted.was ∙ c.count.ensures.0 ∙ rw c.lent.ensures)
