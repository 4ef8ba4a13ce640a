-- `run` does a part's steps that are in a window. Assumes nothing.
use lib.Seq.{drop-nil, take-nil}
use Rattle.rules.specs.Steps.{steps}
use Rattle.part_steps.specs.Inner.Windows.{chosen}
use Rattle.job_parts.proofs.parts.Part.run.Goals as goal

pub returns-in-Nothing : goal.returns-in-Nothing
unfolding steps chosen
returns-in-Nothing c =
    let w = c.args.window in
    rw (c.in-Nothing.is, drop-nil w.from, take-nil w.n)
