-- `repair_by` starts repair as its definition says. Assumes nothing.
use mathlib.Core.Path.{ap}
use native.Mathlib.Omega.{arith}
use lib.Dec.{eqb}
use Rattle.rules.specs.Commands.{job}
use Rattle.job_parts.specs.declared.Plan.{Plan}
use Rattle.blocks.specs.Made.{rewrites}
use Rattle.drafts.specs.JobFor.{repaired, repair_job, job_for, job_by}
use Rattle.drafts.specs.Inner.Drafted.{drafted, Sound}
use Rattle.drafts.proofs.EqualCopies.{either_within}
use Rattle.repair_command.proofs.repair_by.Goals as goal

pub overflow_cast-table_at : goal.overflow_cast-table_at
overflow_cast-table_at c =
    let v = c.args.flash.now.view in
    let l = c.args.flash.now.inside in
    let small = either_within (eqb v.table v.spt0) v.spt1 v.spt0 0x10000000
    (omega (arith, l.spt1_inside, l.short)) (omega (arith, l.spt0_inside, l.short)) in
    omega (arith, small, c.other_copy-table_at.ensures)

pub overflow_cast-pointers_at : goal.overflow_cast-pointers_at
overflow_cast-pointers_at c =
    let v = c.args.flash.now.view in
    let l = c.args.flash.now.inside in
    let small = either_within (eqb v.pointers v.cpb0) v.cpb1 v.cpb0 0x10000000
    (omega (arith, l.cpb1_inside, l.short)) (omega (arith, l.cpb0_inside, l.short)) in
    omega (arith, small, c.other_copy-pointers_at.ensures)

pub returns-clause-sound : goal.returns-clause-sound
unfolding Sound rewrites
returns-clause-sound c =
    (ap (λ (q : Plan). q.count) c.rewrites_plan-plan.ensures, (c.args.flash.now.inside.table_inside, c.args.flash.now.inside.pointers_inside))

pub returns-clause-job : goal.returns-clause-job
unfolding drafted job job_by job_for repair_job repaired rewrites
returns-clause-job c = λ room.
    rw (
      c.rewrites_plan-plan.ensures,
      c.other_copy-table_at.ensures,
      c.other_copy-pointers_at.ensures,
      c.same_blocks.ensures,
      c.same_blocks-2.ensures,
    )
