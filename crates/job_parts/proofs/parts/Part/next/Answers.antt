-- `next` is the first of a part's steps from one on. Assumes nothing.
use lib.Seq.{drop-nil}
use Rattle.part_steps.specs.Parts.{first_step}
use Rattle.job_parts.proofs.parts.Part.next.Goals as goal

pub returns-in-Nothing : goal.returns-in-Nothing
unfolding first_step
returns-in-Nothing c = rw (c.in-Nothing.is, drop-nil c.args.from)
