-- `step_count` is the number of a rewrite's steps. Assumes nothing.
use mathlib.Core.Path.{refl, sym}
use Rattle.part_steps.proofs.RewriteSteps.{length-rewrite}
use Rattle.part_steps.proofs.rewriting.Rewriting.step_count.Goals as goal

pub returns : goal.returns
returns c =
    let r = c.self.inside in
    (rw (← c.self.view_is) (sym (length-rewrite r.at r.block.now c.self.invariant.0)), refl)
