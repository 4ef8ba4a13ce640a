-- `advance` counts steps of the job that bytes hold. Assumes nothing.
use Rattle.runs_for_c.proofs.AfterCount.{count_told}
use Rattle.runs_for_c.proofs.advance.Goals as goal

pub returns : goal.returns
returns c =
    let a = c.args in
    rw (c.told.ensures.returned, c.told.ensures.left)
    (count_told a.steps a.job.now c.advance.new.job a.count.now c.advance.result c.advance.ensures)
