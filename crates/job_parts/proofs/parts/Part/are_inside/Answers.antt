-- `are_inside` is the test of a part's steps from one on. Assumes nothing.
use lib.Seq.{drop-nil}
use Rattle.rules.specs.Lists.{all}
use Rattle.job_parts.proofs.parts.Part.are_inside.Goals as goal

pub returns-in-Nothing : goal.returns-in-Nothing
unfolding all
returns-in-Nothing c = rw (c.in-Nothing.is, drop-nil c.args.from)
