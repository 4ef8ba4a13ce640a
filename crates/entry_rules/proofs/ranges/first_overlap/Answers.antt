-- The search may begin where the ranges stop ascending.
use Rattle.std.proofs.Common.{rules, subst, ℕ}
use Rattle.rules.specs.Table.{ranges_apart}
use Rattle.entries.specs.Tests.{Found}
use Rattle.entry_rules.proofs.Ascending.{overlap_behind}
use Rattle.entry_rules.proofs.ranges.first_overlap.Goals as goal

pub returns : goal.returns
returns c =
    let (few, ascend) = c.ascending-count.ensures in
    subst (λ (i : ℕ). Found c.args.entries.now i c.first_clash.result) (overlap_behind c.args.entries.now c.ascending-count.result few ascend)
    (c.first_clash.ensures ranges_apart (search rules))
