-- By how many places give the slot: refusal 8, or the job of disable. Assumes nothing.
use mathlib.Core.Path.{◌≡◌, sym, ap, ◌∙◌}
use Prim.Native.Nat.{◌<◌}
use native.Mathlib.Omega.{arith}
use lib.ListN.{length}
use Rattle.rules.specs.Bytes.{block}
use Rattle.rules.specs.Answers.{given}
use Rattle.blocks.specs.declared.PlaceList.{PlaceList}
use Rattle.blocks.specs.Made.{place_list}
use Rattle.place_lists.specs.Inner.Walked.{places_giving}
use Rattle.drafts.specs.JobFor.{job_for}
use Rattle.drafts.proofs.Asking.{disable_refused, disable_passed}
use Rattle.pointer_commands.proofs.disabling.disable_by.Goals as goal

pub returns-then-found-eq0-clause-job : goal.returns-then-found-eq0-clause-job
unfolding place_list
returns-then-found-eq0-clause-job c =
    let a = c.args in
    let none : length (places_giving (block a.flash.now.image.now a.flash.now.view.table) (block a.flash.now.image.now a.flash.now.view.pointers) a.slot.0) ≡ 0 =
    rw (c.table-t.ensures, c.pointers-p.ensures) at
    (sym (ap (λ (f : PlaceList). f.count) c.places_giving-found.ensures) ∙ c.if-found-eq0.true) in
    disable_refused a.flash.now.setting a.flash.now.image.now a.flash.now.view c.args.flash.now.seen a.slot.0 (sym c.ask_slot.ensures ∙ c.in_ok-ask_slot.was) none

pub returns-clause-job : goal.returns-clause-job
unfolding job_for place_list
returns-clause-job c =
    let a = c.args in
    let counted : c.places_giving-found.result.count
    ≡ length (places_giving (block a.flash.now.image.now a.flash.now.view.table) (block a.flash.now.image.now a.flash.now.view.pointers) a.slot.0) =
    rw (c.table-t.ensures, c.pointers-p.ensures) at (ap (λ (f : PlaceList). f.count) c.places_giving-found.ensures) in
    let some : 0 < length (places_giving (block a.flash.now.image.now a.flash.now.view.table) (block a.flash.now.image.now a.flash.now.view.pointers) a.slot.0) =
    omega (arith, counted, c.if-found-eq0.false) in
    ap given (c.disable_job.ensures.job a.flash.now.image.now)
    ∙ rw (c.target-to.ensures, c.table-t.ensures, c.pointers-p.ensures)
    (disable_passed a.flash.now.setting a.flash.now.image.now a.flash.now.view c.args.flash.now.seen a.slot.0 (sym c.ask_slot.ensures ∙ c.in_ok-ask_slot.was) some)
