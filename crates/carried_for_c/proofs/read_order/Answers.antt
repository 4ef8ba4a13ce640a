-- `read_order` tells the order of the reading. Assumes nothing.
use Rattle.joined_for_c.proofs.Readers.{readers_for_c_answer}
use Rattle.carried_for_c.specs.Carrying.{OrderTold}
use Rattle.carried_for_c.proofs.read_order.Goals as goal

pub returns : goal.returns
unfolding OrderTold
returns c r e fits =
    let a = c.args in
    let told = readers_for_c_answer a.setting a.image.now r e in
    told.order _ _ _ _ _ fits c.delunkpawi_order.ensures
