-- `length_before` finds the stop, or takes all. Assumes nothing.
use Rattle.std.proofs.Common.{◌∙◌}
use Rattle.names.proofs.Names.{before_length, before_short}
use Rattle.names.proofs.length_before.Goals as goal

pub returns : goal.returns
returns c =
    let a = c.args in
    let e = c.unwrap_or.ensures ∙ rw c.position_of.ensures (before_length a.stop a.text.now) in
    (e, rw e (before_short a.stop a.text.now))
