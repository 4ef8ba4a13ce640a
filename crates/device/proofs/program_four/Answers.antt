-- `program_four` does the steps that program these four bytes.
use Rattle.std.proofs.Common.{◌≡◌, ◌+◌, suc, arith}
use Rattle.rules.specs.Steps.{step, steps, programmed, programs}
use Rattle.device.proofs.program_four.Goals as goal

pub returns : goal.returns
unfolding programmed step steps programs
returns c =
    let at = c.args.at in
    let e1 : at + 1 ≡ suc at = omega arith in
    let e2 : at + 2 ≡ suc (suc at) = omega arith in
    let e3 : at + 3 ≡ suc (suc (suc at)) = omega arith in
    λ g. rw (e1, e2, e3)
