-- By the lowest start: refusal 42, or the job of create. Assumes nothing.
use mathlib.Core.Path.{◌≡◌, sym, ap, ◌∙◌}
use native.Mathlib.Omega.{arith}
use Rattle.rules.specs.Bytes.{block}
use Rattle.rules.specs.Answers.{given}
use Rattle.rules.specs.Commands.{created_start, with_new_row}
use Rattle.drafts.specs.JobFor.{create_job, job_for}
use Rattle.drafts.specs.Inner.Asked.{new_asked}
use Rattle.drafts.proofs.Drafting.{pair_means}
use Rattle.table_commands.proofs.NewAsked.{placed, short_if_allowed, name_passed, size_passed, row_left, create_refused, create_passed}
use Rattle.table_commands.proofs.creating.create_by.Goals as goal

pub lowest_start-start-requires : goal.lowest_start-start-requires
lowest_start-start-requires c =
    let a = c.args in
    let asked : new_asked a.flash.now.image.now a.flash.now.view a.name.now a.size ≡ given tt = sym c.ask_new.ensures ∙ c.in_ok-ask_new.was in (
      rw c.entries.ensures (placed a.flash.now.setting a.flash.now.image.now a.flash.now.view c.args.flash.now.seen),
      (size_passed a.flash.now.setting a.flash.now.image.now a.flash.now.view c.args.flash.now.seen a.name.now a.size asked, omega arith),
    )

pub returns-then-len-start-clause-job : goal.returns-then-len-start-clause-job
unfolding created_start
returns-then-len-start-clause-job c =
    let a = c.args in
    let asked : new_asked a.flash.now.image.now a.flash.now.view a.name.now a.size ≡ given tt = sym c.ask_new.ensures ∙ c.in_ok-ask_new.was in
    let lowest : c.lowest_start-start.result ≡ created_start a.flash.now.image.now a.flash.now.view a.size =
    rw (c.entries.ensures, c.pointers-p.ensures) at c.lowest_start-start.ensures in
    create_refused a.flash.now.setting a.flash.now.image.now a.flash.now.view c.args.flash.now.seen a.name.now a.size asked (omega (arith, lowest, c.if-len-start.true))

pub put_new_row-requires : goal.put_new_row-requires
put_new_row-requires c =
    let a = c.args in
    let asked : new_asked a.flash.now.image.now a.flash.now.view a.name.now a.size ≡ given tt = sym c.ask_new.ensures ∙ c.in_ok-ask_new.was in (
      (
        c.block_at-t.ensures.1,
        rw c.block_at-t.ensures.0 (row_left a.flash.now.setting a.flash.now.image.now a.flash.now.view c.args.flash.now.seen a.name.now a.size asked),
      ),
      (
        short_if_allowed a.name.now (name_passed a.flash.now.setting a.flash.now.image.now a.flash.now.view c.args.flash.now.seen a.name.now a.size asked),
        (omega arith, c.requires),
      ),
    )

pub returns-clause-sound : goal.returns-clause-sound
returns-clause-sound c =
    (pair_means _ _ _ c.target-to.result.at0 c.target-to.result.at1 c.put_new_row.new.room c.pair_plan.ensures).sound c.args.flash.now.image.now

pub returns-clause-job : goal.returns-clause-job
unfolding created_start job_for create_job
returns-clause-job c =
    let a = c.args in
    let t = block a.flash.now.image.now a.flash.now.view.table in
    let asked : new_asked a.flash.now.image.now a.flash.now.view a.name.now a.size ≡ given tt = sym c.ask_new.ensures ∙ c.in_ok-ask_new.was in
    let lowest : c.lowest_start-start.result ≡ created_start a.flash.now.image.now a.flash.now.view a.size =
    rw (c.entries.ensures, c.pointers-p.ensures) at c.lowest_start-start.ensures in
    let put : c.put_new_row.new.room ≡ with_new_row t a.name.now (created_start a.flash.now.image.now a.flash.now.view a.size) a.size =
    rw (c.block_at-t.ensures.0, lowest) at c.put_new_row.ensures in
    let to = c.target-to.result in
    ap given ((pair_means _ _ _ to.at0 to.at1 c.put_new_row.new.room c.pair_plan.ensures).job a.flash.now.image.now)
    ∙ rw (put, c.target-to.ensures)
    (create_passed a.flash.now.setting a.flash.now.image.now a.flash.now.view c.args.flash.now.seen a.name.now a.size asked (omega (arith, lowest, c.if-len-start.false)))
