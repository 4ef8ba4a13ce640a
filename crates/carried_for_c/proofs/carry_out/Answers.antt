-- `carry_out` carries a command out with the functions for C. Assumes nothing.
use Rattle.commands.specs.Begins.{command_of}
use Rattle.commands.proofs.NameLent.{bytes_lent}
use Rattle.runs_for_c.specs.Ran.{lent}
use Rattle.carried_for_c.proofs.Carrying.{carried_by}
use Rattle.carried_for_c.proofs.carry_out.Goals as goal

pub returns : goal.returns
returns c =
    let known = c.slice_known-1.given in
    let name-known = c.shared_slice_known-1.given in
    let a = c.args in
    carried_by a.setting (command_of a.command a.name.now) c.begin-number.result
    (lent a.job.now a.image.now a.done.now) c.begin-number.new.job a.first a.second
    (lent c.run_if_started.new.job c.run_if_started.new.image c.run_if_started.new.done)
    (λ i. (known i).fits) (bytes_lent a.command a.name.now (λ i. (name-known i).fits)) c.requires c.begin-number.ensures
    c.run_if_started.ensures
