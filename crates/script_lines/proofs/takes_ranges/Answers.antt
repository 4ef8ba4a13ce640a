-- `takes_ranges` is the test of the verb, of a number and of pairs of numbers. Assumes nothing.
use Rattle.script_lines.specs.Forms.{takes_ranges}
use Rattle.script_lines.proofs.Forms.{equal_texts}
use Rattle.script_lines.proofs.takes_ranges.Goals as goal

pub returns : goal.returns
unfolding takes_ranges
returns c = rw (equal_texts c.same.ensures.0 c.same.ensures.1)
