-- `run` runs the job that bytes hold and tells how many steps were done. Assumes nothing.
use Rattle.runs_for_c.proofs.AfterRun.{run_told}
use Rattle.runs_for_c.proofs.run.Goals as goal

pub returns : goal.returns
returns c =
    let a = c.args in
    rw (c.told.ensures.returned, c.told.ensures.left)
    (run_told a.budget a.job.now a.image.now c.run.new.job c.run.new.image a.done.now c.run.result c.run.ensures)
