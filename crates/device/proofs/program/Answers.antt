-- `program` does the steps that program these bytes. Assumes nothing.
use Rattle.std.proofs.Common.{sym, ◌∙◌, arith}
use Rattle.rules.specs.Steps.{programmed}
use Rattle.device.proofs.Programs.{programs_step, programs_over}
use Rattle.device.proofs.program.Goals as goal

pub loop-i-preserved : goal.loop-i-preserved
unfolding programmed
loop-i-preserved c =
    λ g. c.loop-i.invariant g ∙ programs_step g c.args.at c.args.given.now c.loop-i.image c.loop-i.i (omega arith)

pub returns : goal.returns
returns c =
    λ g. sym (c.loop-i.invariant g ∙ programs_over g c.args.at c.args.given.now c.loop-i.image c.loop-i.i (omega arith))
