-- `are_inside` is the test of the steps of both parts from one on. Assumes nothing.
use mathlib.Core.Path.{sym}
use Rattle.rules.specs.Cuts.{inside}
use Rattle.part_steps.proofs.Splits.{all_split}
use Rattle.job_parts.specs.Inner.Lent.{steps_in}
use Rattle.job_parts.proofs.parts.Parts.are_inside.Goals as goal

pub returns : goal.returns
returns c =
    let a = c.args in
    let p = c.self.inside in
    rw (← c.self.view_is, c.are_inside.ensures, c.are_inside-2.ensures, c.saturating_sub-rest.ensures, c.step_count.ensures.0)
    (sym (all_split (inside a.granule a.len) a.from (steps_in p.first) (steps_in p.second)))
