-- `last_number` is the value of the last word. Assumes nothing.
use Rattle.tokens.proofs.last_number.Goals as goal

pub returns : goal.returns
returns c = rw (c.value_of.ensures, c.last_word.ensures)
