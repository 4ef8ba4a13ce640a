-- `takes_slot` is the test of the verb and of one number. Assumes nothing.
use Rattle.script_lines.specs.Forms.{takes_slot}
use Rattle.script_lines.proofs.takes_slot.Goals as goal

pub returns : goal.returns
unfolding takes_slot
returns c = rw c.takes.ensures
