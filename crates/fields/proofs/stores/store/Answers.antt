-- `store` puts the lowest bytes of a number at an offset. Assumes nothing.
use Rattle.std.proofs.Common.{◌∙◌}
use Rattle.fields.proofs.Numbers.{written}
use Rattle.fields.proofs.stores.store.Goals as goal

pub returns : goal.returns
returns g c = c.copy.ensures ∙ rw (c.to_le_bytes.ensures, written g.row.N c.args.v c.requires.0)
