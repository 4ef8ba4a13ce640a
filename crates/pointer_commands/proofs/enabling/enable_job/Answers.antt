-- `enable_job` is the job of enable. Assumes nothing.
use mathlib.Core.Path.{refl, sym, ◌∙◌}
use native.Mathlib.Omega.{arith}
use Rattle.rules.specs.Copies.{order_by}
use Rattle.places.specs.Inner.FreePlace.{free_from}
use Rattle.place_walks.proofs.Free.{free_by_value}
use Rattle.drafts.proofs.Drafting.{none_means, pair_means, means_too}
use Rattle.pointer_commands.proofs.CommandJobs.{enable_none, enable_place, enable_rewrite}
use Rattle.pointer_commands.proofs.enabling.enable_job.Goals as goal

pub returns-then-comes_first : goal.returns-then-comes_first
unfolding order_by
returns-then-comes_first c =
    means_too
    (enable_none _ _ _ _ _ _ _ (sym c.comes_first.ensures ∙ c.if-comes_first.true))
    (none_means _ _ _ _ c.no_plan.ensures)

pub returns-then-free-count : goal.returns-then-free-count
unfolding order_by free_from
returns-then-free-count c =
    means_too
    (enable_place _ _ _ _ _ _ _ (sym c.comes_first.ensures ∙ c.if-comes_first.false) c.free-free.result.0 c.args.start
    (c.free-free.ensures.free ∙ sym (free_by_value _ _)) c.requires.begins
    c.offset.result c.one_place-one.result _
    (omega (arith, c.count.ensures.count, c.if-free-count.true))
    c.offset.ensures.offset c.one_place-one.ensures refl)
    c.into_places.ensures

pub returns : goal.returns
unfolding order_by free_from
returns c =
    means_too
    (enable_rewrite _ _ _ _ _ _ _ (sym c.comes_first.ensures ∙ c.if-comes_first.false) c.free-free.result.0 c.args.start
    (c.free-free.ensures.free ∙ sym (free_by_value _ _)) c.requires.begins _
    (omega (arith, c.count.ensures.count, c.if-free-count.false))
    c.order_with_first.ensures)
    (pair_means _ _ _ _ _ _ c.pair_plan.ensures)
