-- `takes` is the test of the verb and of the numbers. Assumes nothing.
use Rattle.script_lines.specs.Forms.{takes}
use Rattle.script_lines.proofs.Forms.{equal_texts}
use Rattle.script_lines.proofs.takes.Goals as goal

pub returns : goal.returns
unfolding takes
returns c = rw (equal_texts c.same.ensures.0 c.same.ensures.1)
