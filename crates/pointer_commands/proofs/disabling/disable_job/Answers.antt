-- `disable_job` is the job of disable. Assumes nothing.
use mathlib.Core.Path.{refl, sym, ◌∙◌}
use Rattle.rules.specs.Table.{starts}
use Rattle.rules.specs.Copies.{order_by}
use Rattle.drafts.proofs.Drafting.{pair_means, means_too}
use Rattle.pointer_commands.proofs.CommandJobs.{disable_rewrite, disable_in_place}
use Rattle.pointer_commands.proofs.disabling.disable_job.Goals as goal

pub returns-then-half_cleared_names : goal.returns-then-half_cleared_names
unfolding order_by starts
returns-then-half_cleared_names c =
    means_too
    (disable_rewrite _ _ _ _ _ _ _ c.args.start c.requires.begins _
    (rw (← c.entries.ensures) (sym c.half_cleared_names.ensures ∙ c.if-half_cleared_names.true)) c.order_without.ensures.block)
    (pair_means _ _ _ _ _ _ c.pair_plan.ensures)

pub returns : goal.returns
unfolding starts
returns c =
    means_too
    (disable_in_place _ _ _ _ _ _ _ c.args.start c.requires.begins c.offset.result c.args.found _
    (rw (← c.entries.ensures) (sym c.half_cleared_names.ensures ∙ c.if-half_cleared_names.false)) c.offset.ensures.offset c.requires.found refl)
    c.into_places.ensures
