-- `same_bytes` is the test of the definitions. Assumes nothing.
use Rattle.book_entries.proofs.Blocks.{same_by}
use Rattle.book_entries.proofs.same_bytes.Goals as goal

pub returns : goal.returns
returns c = same_by _ _ _ c.same.ensures
