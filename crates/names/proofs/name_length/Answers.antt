-- `name_length` is the number of bytes before a zero. Assumes nothing.
use Rattle.names.proofs.Names.{before_zero}
use Rattle.names.proofs.name_length.Goals as goal

pub returns : goal.returns
returns c = rw (before_zero c.args.s.now) at c.length_before.ensures
