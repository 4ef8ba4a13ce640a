-- By how many places give the slot: refusal 43, or the job of delete. Assumes nothing.
use mathlib.Core.Path.{◌≡◌, sym, ap, ◌∙◌}
use Prim.Native.Nat.{◌<◌}
use native.Mathlib.Omega.{arith}
use lib.ListN.{length}
use Rattle.rules.specs.Bytes.{block}
use Rattle.rules.specs.Answers.{given}
use Rattle.rules.specs.Table.{entries}
use Rattle.rules.specs.Readers.{slot_row}
use Rattle.rules.specs.Commands.{without_row}
use Rattle.rules.proofs.Table.Standing.{length-entries}
use Rattle.blocks.specs.declared.PlaceList.{PlaceList}
use Rattle.blocks.specs.Made.{place_list}
use Rattle.place_lists.specs.Inner.Walked.{places_giving}
use Rattle.drafts.specs.JobFor.{delete_job, job_for}
use Rattle.drafts.specs.Inner.Asked.{slot_asked}
use Rattle.drafts.proofs.Drafting.{pair_means}
use Rattle.drafts.proofs.Asking.{row_is, row_counted, delete_refused, delete_passed}
use Rattle.table_commands.proofs.deleting.delete_by.Goals as goal

pub returns-then-found-ne0-clause-job : goal.returns-then-found-ne0-clause-job
unfolding place_list
returns-then-found-ne0-clause-job c =
    let a = c.args in
    let counted : c.places_giving-found.result.count
    ≡ length (places_giving (block a.flash.now.image.now a.flash.now.view.table) (block a.flash.now.image.now a.flash.now.view.pointers) a.slot.0) =
    rw (c.table-t.ensures, c.pointers-p.ensures) at (ap (λ (f : PlaceList). f.count) c.places_giving-found.ensures) in
    let some : 0 < length (places_giving (block a.flash.now.image.now a.flash.now.view.table) (block a.flash.now.image.now a.flash.now.view.pointers) a.slot.0) =
    omega (arith, counted, c.if-found-ne0.true) in
    delete_refused a.flash.now.setting a.flash.now.image.now a.flash.now.view c.args.flash.now.seen a.slot.0 (sym c.ask_slot.ensures ∙ c.in_ok-ask_slot.was) some

pub put_without_row-requires : goal.put_without_row-requires
put_without_row-requires c =
    let a = c.args in
    let t = block a.flash.now.image.now a.flash.now.view.table in
    let asked : slot_asked a.flash.now.image.now a.flash.now.view a.slot.0 ≡ given tt = sym c.ask_slot.ensures ∙ c.in_ok-ask_slot.was in
    let row : c.unwrap-row.result.0 ≡ slot_row (entries t) a.slot.0 =
    row_is a.flash.now.image.now a.flash.now.view a.slot.0 asked c.unwrap-row.ensures (rw c.table-t.ensures at c.row_of.ensures) in
    let counted = length-entries t in
    let below = row_counted a.flash.now.image.now a.flash.now.view a.slot.0 asked in (
      (c.bytes.ensures.1, rw (c.bytes.ensures.0, c.table-t.ensures) c.args.flash.now.inside.count_right),
      (rw (c.bytes.ensures.0, c.table-t.ensures) (omega (arith, row, counted, below)), c.requires),
    )

pub returns-clause-sound : goal.returns-clause-sound
returns-clause-sound c =
    (pair_means _ _ _ c.target-to.result.at0 c.target-to.result.at1 c.put_without_row.new.room c.pair_plan.ensures).sound c.args.flash.now.image.now

pub returns-clause-job : goal.returns-clause-job
unfolding place_list job_for delete_job
returns-clause-job c =
    let a = c.args in
    let t = block a.flash.now.image.now a.flash.now.view.table in
    let none : length (places_giving t (block a.flash.now.image.now a.flash.now.view.pointers) a.slot.0) ≡ 0 =
    rw (c.table-t.ensures, c.pointers-p.ensures) at
    (sym (ap (λ (f : PlaceList). f.count) c.places_giving-found.ensures) ∙ c.if-found-ne0.false) in
    let asked : slot_asked a.flash.now.image.now a.flash.now.view a.slot.0 ≡ given tt = sym c.ask_slot.ensures ∙ c.in_ok-ask_slot.was in
    let row : c.unwrap-row.result.0 ≡ slot_row (entries t) a.slot.0 =
    row_is a.flash.now.image.now a.flash.now.view a.slot.0 asked c.unwrap-row.ensures (rw c.table-t.ensures at c.row_of.ensures) in
    let put : c.put_without_row.new.room ≡ without_row t (slot_row (entries t) a.slot.0) =
    rw (c.bytes.ensures.0, c.table-t.ensures, row) at c.put_without_row.ensures in
    let to = c.target-to.result in
    ap given ((pair_means _ _ _ to.at0 to.at1 c.put_without_row.new.room c.pair_plan.ensures).job a.flash.now.image.now)
    ∙ rw (put, c.target-to.ensures)
    (delete_passed a.flash.now.setting a.flash.now.image.now a.flash.now.view c.args.flash.now.seen a.slot.0 asked none)
