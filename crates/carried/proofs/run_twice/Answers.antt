-- `run_twice` runs a job, then the job that this left. Assumes nothing.
use mathlib.Core.Path.{refl}
use Rattle.jobs.specs.Jobs.{after_call}
use Rattle.joined.specs.Runs.{AllRan}
use Rattle.carried.specs.Carrying.{RanTwice}
use Rattle.carried.proofs.run_twice.Goals as goal

pub returns : goal.returns
unfolding RanTwice AllRan
returns c = (
  record { budget = c.args.first; returned = after_call c.run.new.self c.run.result; image = c.run.new.image },
  refl,
  (c.run.ensures, (c.run-2.ensures, tt)),
)
