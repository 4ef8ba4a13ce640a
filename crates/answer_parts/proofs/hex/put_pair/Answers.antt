-- `put_pair` puts the higher digit and then the lower. Assumes nothing.
use Rattle.text.proofs.Puts.{then}
use Rattle.answer_parts.specs.Hex.{pair}
use Rattle.answer_parts.proofs.hex.put_pair.Goals as goal

pub returns : goal.returns
unfolding pair
returns c = then (rw c.shown.ensures at c.put_byte-end.ensures) (rw c.shown-2.ensures at c.put_byte.ensures)
