-- `run_job` says and leaves what one run of all steps does. Assumes nothing.
use mathlib.Core.Path.{refl}
use Rattle.jobs.specs.Jobs.{RanBy, after_call}
use Rattle.harness.specs.Finished.{done_by, left_by}
use Rattle.harness.proofs.Finishing.{ran_all}
use Rattle.harness.proofs.run_job.Goals as goal

pub returns-then-left-eq0 : goal.returns-then-left-eq0
unfolding done_by left_by
returns-then-left-eq0 c = rw (← c.remaining-left.ensures, c.if-left-eq0.true) (refl, refl)

pub returns : goal.returns
unfolding RanBy
returns c =
    let a = c.args in
    rw (← c.remaining-left.ensures)
    (ran_all c.remaining-left.result a.job a.image.now c.run.new.image (after_call c.run.new.self c.run.result) c.run.ensures c.if-left-eq0.false)
