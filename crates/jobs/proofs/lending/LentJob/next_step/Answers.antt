-- `next_step` is the first step that the job denotes. Assumes nothing.
use mathlib.Core.Path.{◌∙◌}
use Rattle.jobs.specs.Jobs.{next_of, steps_of}
use Rattle.jobs.proofs.lending.LentJob.next_step.Goals as goal

pub returns : goal.returns
unfolding next_of steps_of
returns c = c.next.ensures ∙ rw (c.parts.ensures, ← c.self.view_is)
