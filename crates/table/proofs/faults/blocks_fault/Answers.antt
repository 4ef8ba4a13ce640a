-- The four blocks on granules, so that no entry breaks the rule.
use Rattle.std.proofs.Common.{rules}
use Rattle.rules.specs.Table.{block_on_granules}
use Rattle.table.proofs.Told.{none_11}
use Rattle.table.proofs.faults.blocks_fault.Goals as goal

pub returns-then-table0-table1 : goal.returns-then-table0-table1
returns-then-table0-table1 c =
    none_11 c.args.setting c.args.entries.now c.requires.names c.requires.six
    (rw (
      ← c.requires.table0,
      ← c.requires.table1,
      ← c.requires.pointers0,
      ← c.requires.pointers1,
      ← c.is_on_granules-table0.ensures,
      ← c.is_on_granules-table1.ensures,
      ← c.is_on_granules-pointers0.ensures,
      ← c.is_on_granules-pointers1.ensures,
    ) c.if-table0-table1.true)

pub returns : goal.returns
unfolding block_on_granules
returns c = c.first_failing.ensures (block_on_granules c.args.setting) (search rules)
