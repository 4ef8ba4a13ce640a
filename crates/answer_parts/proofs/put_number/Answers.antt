-- `put_number` puts a space and then the digits. Assumes nothing.
use Rattle.text.proofs.Puts.{then}
use Rattle.answer_parts.specs.Answers.{spaced}
use Rattle.answer_parts.proofs.put_number.Goals as goal

pub returns : goal.returns
unfolding spaced
returns c = then c.put_byte-end.ensures c.put_decimal.ensures
