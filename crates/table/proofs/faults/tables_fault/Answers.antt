-- Both tables where the caller said, so that no entry breaks the rule.
use Rattle.std.proofs.Common.{rules}
use Rattle.rules.specs.Table.{tables_as_told, table_as_told}
use Rattle.table.proofs.Told.{none_10}
use Rattle.table.proofs.faults.tables_fault.Goals as goal

pub returns-then-start-spt0 : goal.returns-then-start-spt0
unfolding tables_as_told
returns-then-start-spt0 c =
    none_10 c.args.setting c.args.entries.now c.requires.names c.requires.six
    (rw (← c.requires.first, ← c.requires.second, ← c.start.ensures, ← c.start-2.ensures) c.if-start-spt0.true)

pub returns : goal.returns
unfolding table_as_told
returns c = c.first_failing.ensures (table_as_told c.args.setting) (search rules)
