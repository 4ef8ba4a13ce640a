-- `count` answers how many steps are counted. Assumes nothing.
use mathlib.Core.Path.{refl, ◌∙◌}
use Prim.Native.Nat.{◌-◌}
use Rattle.job_parts.specs.Inner.Parts.{listed_length}
use Rattle.jobs.specs.Jobs.{lent}
use Rattle.jobs.proofs.Running.{remain}
use Rattle.jobs.proofs.lending.LentJob.count.Goals as goal

pub returns : goal.returns
returns c =
    let i = c.self.inside in
    let j = lent i.plan i.done i.first.now i.second.now i.places.now i.value.now in
    rw (← c.self.view_is)
    (c.counted_of.ensures.0 ∙ rw (remain j c.self.invariant (listed_length j.plan - j.done) refl), c.counted_of.ensures.1)
