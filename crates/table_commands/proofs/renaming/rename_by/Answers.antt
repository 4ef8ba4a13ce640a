-- Past the refusals the job is that of rename. Assumes nothing.
use mathlib.Core.Path.{◌≡◌, sym, ap, ◌∙◌}
use mathlib.Core.Bool.{true, not}
use native.Mathlib.Omega.{arith}
use Rattle.rules.specs.Bytes.{block}
use Rattle.rules.specs.Answers.{given}
use Rattle.rules.specs.Table.{entries}
use Rattle.rules.specs.Readers.{slot_row}
use Rattle.rules.specs.Commands.{name_allowed, name_free}
use Rattle.rules.proofs.Table.Standing.{length-entries}
use Rattle.walks.proofs.Joined.{passed}
use Rattle.drafts.specs.JobFor.{job_for}
use Rattle.drafts.specs.Inner.Asked.{slot_asked}
use Rattle.drafts.proofs.Asking.{row_is, rename_passed}
use Rattle.table_commands.proofs.NewAsked.{whole_if_allowed}
use Rattle.table_commands.proofs.RenameJob.{rename_by_row}
use Rattle.table_commands.proofs.renaming.rename_by.Goals as goal

pub rename_job-requires-clause-few : goal.rename_job-requires-clause-few
rename_job-requires-clause-few c =
    rw c.table-t.ensures (omega (arith, length-entries (block c.args.flash.now.image.now c.args.flash.now.view.table), c.args.flash.now.inside.count_right))

pub returns-clause-job : goal.returns-clause-job
unfolding job_for
returns-clause-job c =
    let a = c.args in
    let t = block a.flash.now.image.now a.flash.now.view.table in
    let right : name_allowed a.name.now ≡ true = passed c.name_allowed.ensures (ap not c.if-not-name_allowed.false) in
    let asked : slot_asked a.flash.now.image.now a.flash.now.view a.slot.0 ≡ given tt = sym c.ask_slot.ensures ∙ c.in_ok-ask_slot.was in
    let row : c.unwrap-row.result.0 ≡ slot_row (entries t) a.slot.0 =
    row_is a.flash.now.image.now a.flash.now.view a.slot.0 asked c.unwrap-row.ensures (rw c.table-t.ensures at c.row_of.ensures) in
    let free : name_free (entries t) (slot_row (entries t) a.slot.0) a.name.now ≡ true =
    rw (row, c.entries.ensures, c.table-t.ensures) at (passed c.is_free.ensures (ap not c.if-not-is_free.false)) in
    ap given (c.rename_job.ensures.job a.flash.now.image.now)
    ∙ rw (c.target-to.ensures, c.table-t.ensures, rename_by_row _ _ _ _ a.slot.0 _ t a.name.now row (whole_if_allowed a.name.now right))
    (rename_passed a.flash.now.setting a.flash.now.image.now a.flash.now.view c.args.flash.now.seen a.slot.0 asked a.name.now right free)
