-- `remaining` is the number of steps that the job denotes. Assumes nothing.
use Rattle.jobs.specs.Jobs.{lent}
use Rattle.jobs.proofs.Running.{remain}
use Rattle.jobs.proofs.lending.LentJob.remaining.Goals as goal

pub returns : goal.returns
returns c =
    let i = c.self.inside in
    rw (← c.self.view_is)
    (remain (lent i.plan i.done i.first.now i.second.now i.places.now i.value.now) c.self.invariant c.remaining_of.result
    c.remaining_of.ensures)
