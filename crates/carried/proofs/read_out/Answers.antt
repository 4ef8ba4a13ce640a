-- `read_out` asks the two readers on one flash. Assumes nothing.
use Rattle.carried.specs.Carrying.{ReadOutBy}
use Rattle.carried.proofs.read_out.Goals as goal

pub returns : goal.returns
unfolding ReadOutBy
returns c =
    (c.table_read.result.now, record { part = c.table_read.ensures; answer = c.order_list.ensures.answer; written = c.order_list.ensures.written })
