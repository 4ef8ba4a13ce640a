-- Assumes nothing.
use Rattle.rules.specs.Copies.{pair_agrees, tables_agree, pointers_agree}
use Rattle.views.proofs.Seen.{seen}
use Rattle.conditions.specs.Condition.{condition_by}
use Rattle.conditions.proofs.condition_by.Goals as goal

pub returns : goal.returns
unfolding condition_by tables_agree pointers_agree pair_agrees
returns c =
    let k = seen _ _ _ c.args.flash.now.seen in
    rw (
      c.agree.ensures,
      c.agree-2.ensures,
      c.table_stands-spt0.ensures,
      c.table_stands-spt1.ensures,
      c.pointers_stand-cpb0.ensures,
      c.pointers_stand-cpb1.ensures,
      k.same_spt0,
      k.same_spt1,
    )
