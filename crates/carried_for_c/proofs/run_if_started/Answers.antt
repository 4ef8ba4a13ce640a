-- `run_if_started` runs a job that was started, twice. Assumes nothing.
use Rattle.runs_for_c.specs.Ran.{lent}
use Rattle.carried_for_c.proofs.Carrying.{not_started, started}
use Rattle.carried_for_c.proofs.run_if_started.Goals as goal

pub returns-then-number-ne0 : goal.returns-then-number-ne0
returns-then-number-ne0 c =
    let a = c.args in
    not_started a.number (lent a.job.now a.image.now a.done.now) a.first a.second c.if-number-ne0.true

pub returns : goal.returns
returns c =
    let a = c.args in
    started a.number (lent a.job.now a.image.now a.done.now)
    (lent c.delunkpawi_run.new.job c.delunkpawi_run.new.image c.delunkpawi_run.new.done)
    (lent c.delunkpawi_run-2.new.job c.delunkpawi_run-2.new.image c.delunkpawi_run-2.new.done)
    a.first a.second c.delunkpawi_run.result c.delunkpawi_run-2.result c.if-number-ne0.false c.delunkpawi_run.ensures c.delunkpawi_run-2.ensures
