-- Rules 8 to 11: the first of them that is broken. Assumes nothing.
use Rattle.std.specs.Prelude.{Option, List}
use Rattle.rules.specs.Lists.{first_failing}
use Rattle.rules.specs.Answers.{no_entry_number, no_fault}
use Rattle.rules.specs.declared.Setting.{Setting}
use Rattle.rules.specs.declared.Fault.{Fault}
use Rattle.rules.specs.declared.TableRule.TheVariants.{SixNamed, BootInfoAtZero, TablesAsTold, BlocksOnGranules}
use Rattle.rules.specs.Table.{Entry, six_named, boot_info_at_0, tables_as_told, blocks_on_granules}
use Rattle.rules.specs.Table.{boot_info_right, table_as_told, block_on_granules, broken_unless}

-- the end of `entries_fault`
unfoldable pub six_fault : Setting → List Entry → Option Fault
six_fault s es =
    broken_unless SixNamed no_entry_number (six_named es)
    (broken_unless BootInfoAtZero (first_failing boot_info_right es) (boot_info_at_0 es)
    (broken_unless TablesAsTold (first_failing (table_as_told s) es) (tables_as_told s es)
    (broken_unless BlocksOnGranules (first_failing (block_on_granules s) es) (blocks_on_granules s es)
    no_fault)))
