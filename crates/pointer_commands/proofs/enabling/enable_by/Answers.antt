-- Past the refusals the job is that of enable. Assumes nothing.
use mathlib.Core.Path.{◌≡◌, sym, ap, ◌∙◌}
use mathlib.Core.Bool.{true, false, not}
use lib.ListN.{get_or}
use Rattle.rules.specs.Bytes.{block}
use Rattle.rules.specs.Answers.{given}
use Rattle.rules.specs.Table.{starts}
use Rattle.rules.specs.Commands.{slot_empty, enough_places}
use Rattle.walks.proofs.Joined.{passed}
use Rattle.drafts.specs.JobFor.{job_for}
use Rattle.drafts.proofs.Asking.{enable_passed}
use Rattle.pointer_commands.proofs.enabling.enable_by.Goals as goal

pub returns-clause-job : goal.returns-clause-job
unfolding job_for
returns-clause-job c =
    let a = c.args in
    let t = block a.flash.now.image.now a.flash.now.view.table in
    let p = block a.flash.now.image.now a.flash.now.view.pointers in
    let sent : slot_empty a.flash.now.image.now (get_or (starts t) a.slot.0 0) ≡ false =
    rw (c.slot_start-start.ensures, c.table-t.ensures) at (sym c.is_erased.ensures ∙ c.if-is_erased.false) in
    let room : enough_places (starts t) p a.slot.0 ≡ true =
    rw (c.table-t.ensures, c.pointers-p.ensures) at (passed c.enough_places.ensures (ap not c.if-not-enough_places.false)) in
    ap given (c.enable_job.ensures.job a.flash.now.image.now)
    ∙ rw (c.target-to.ensures, c.table-t.ensures, c.pointers-p.ensures)
    (enable_passed a.flash.now.setting a.flash.now.image.now a.flash.now.view c.args.flash.now.seen a.slot.0 (sym c.ask_slot.ensures ∙ c.in_ok-ask_slot.was) sent room)
