-- `program_eight` does the steps that program these eight bytes: four and then four.
use Rattle.std.proofs.Common.{arith}
use Rattle.device.proofs.Programs.{fours_done}
use Rattle.device.proofs.program_eight.Goals as goal

pub returns : goal.returns
returns c =
    let a = c.args in
    λ g. fours_done g a.at a.given.now a.image.now c.program_four.new.image
    c.program_four-2.new.image (omega arith) (c.program_four.ensures g)
    (c.program_four-2.ensures g) (omega arith)
