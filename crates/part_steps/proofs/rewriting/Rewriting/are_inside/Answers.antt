-- `are_inside` is the test of a rewrite's steps from one on. Assumes nothing.
use mathlib.Core.Path.{sym, ◌∙◌}
use Rattle.part_steps.proofs.RewriteSteps.{inside-rewrite}
use Rattle.part_steps.proofs.rewriting.Rewriting.are_inside.Goals as goal

pub returns : goal.returns
returns c =
    let a = c.args in
    let r = c.self.inside in
    rw (← c.self.view_is)
    (c.is_inside.ensures ∙ sym (inside-rewrite r.at r.block.now c.self.invariant.0 a.granule a.len a.from))
