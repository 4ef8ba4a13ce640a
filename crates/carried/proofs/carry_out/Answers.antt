-- `carry_out` carries a command out. Assumes nothing.
use mathlib.Core.Path.{sym, ◌∙◌}
use Rattle.std.proofs.lemmas.Result.{err_from_is_err_and}
use Rattle.commands.specs.Begins.{command_of}
use Rattle.commands.proofs.NameLent.{bytes_lent}
use Rattle.carried.proofs.Carrying.{carried_refused, carried_by}
use Rattle.carried.proofs.carry_out.Goals as goal

pub returns-in_err-job : goal.returns-in_err-job
returns-in_err-job c =
    let known = c.slice_known-1.given in
    let name-known = c.shared_slice_known-1.given in
    let a = c.args in
    let p = err_from_is_err_and c.from_residual.result c.from_residual.ensures.1 in
    rw (p.1, p.2)
    (carried_refused a.setting (command_of a.command a.name.now) a.image.now
    (λ i. (known i).fits) (bytes_lent a.command a.name.now (λ i. (name-known i).fits))
    a.first a.second _ (sym c.in_err-job.was ∙ c.start.ensures))

pub returns : goal.returns
returns c =
    let known = c.slice_known-1.given in
    let name-known = c.shared_slice_known-1.given in
    let a = c.args in
    carried_by a.setting (command_of a.command a.name.now) a.image.now
    (λ i. (known i).fits) (bytes_lent a.command a.name.now (λ i. (name-known i).fits))
    a.first a.second c.in_ok-job.job c.run_twice-did.new.job c.run_twice-did.result c.run_twice-did.new.image
    (sym c.in_ok-job.was ∙ c.start.ensures) c.run_twice-did.ensures
