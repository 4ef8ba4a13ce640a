-- `remaining` tells how many steps remain of the job that bytes hold. Assumes nothing.
use mathlib.Core.Path.{sym, ◌∙◌}
use Rattle.jobs.specs.Jobs.{steps_left}
use Rattle.codes.proofs.Numbered.{number-refused, kept-refused, number-given, kept-given}
use Rattle.runs_for_c.proofs.remaining.Goals as goal

pub returns-in-Err : goal.returns-in-Err
returns-in-Err c =
    let e = sym c.in-Err.is ∙ c.job_in.ensures in
    record { returned = c.number.ensures ∙ number-refused e; count_left = kept-refused steps_left c.args.count.now e }

pub returns-in-Ok : goal.returns-in-Ok
returns-in-Ok c =
    let e = sym c.in-Ok.is ∙ c.job_in.ensures in
    record { returned = number-given e; count_left = c.remaining.ensures ∙ kept-given steps_left c.args.count.now e }
