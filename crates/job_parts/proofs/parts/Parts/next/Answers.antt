-- `next` is the first of the steps of both parts from one on. Assumes nothing.
use mathlib.Core.Path.{sym, ◌∙◌}
use native.Mathlib.Omega.{arith}
use Rattle.part_steps.proofs.Splits.{first_left, first_right}
use Rattle.job_parts.specs.Inner.Lent.{steps_in}
use Rattle.job_parts.proofs.parts.Parts.next.Goals as goal

pub returns-then-from-size : goal.returns-then-from-size
returns-then-from-size c =
    let p = c.self.inside in
    rw (← c.self.view_is)
    (c.next.ensures
    ∙ sym (first_left c.args.from (steps_in p.first) (steps_in p.second) (omega (arith, c.step_count-size.ensures.0))))

pub returns : goal.returns
returns c =
    let p = c.self.inside in
    rw (← c.self.view_is)
    (c.next-2.ensures
    ∙ rw c.step_count-size.ensures.0
    (sym (first_right c.args.from (steps_in p.first) (steps_in p.second) (omega (arith, c.step_count-size.ensures.0)))))
