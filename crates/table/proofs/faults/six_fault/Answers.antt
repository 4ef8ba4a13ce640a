-- One law for each exit, from what the searches before it found.
use Rattle.std.proofs.Common.{sym, ◌∙◌}
use Rattle.table.proofs.Told.{fault_8, fault_9, fault_10, fault_11, none_broken}
use Rattle.table.proofs.faults.six_fault.Goals as goal

pub returns-in-None : goal.returns-in-None
returns-in-None c = c.broken_at.ensures ∙ sym (fault_8 c.args.setting c.args.entries.now (sym c.in-None.ensures.there))

pub returns-in-Some-boot_info_fault : goal.returns-in-Some-boot_info_fault
returns-in-Some-boot_info_fault c =
    c.broken_at-in-Some-boot_info_fault.ensures
    ∙ sym (fault_9 c.args.setting c.args.entries.now c.requires.names (sym c.in-Some.ensures.there) c.boot_info_fault.ensures c.in-Some-boot_info_fault.is)

pub returns-in-Some-tables_fault : goal.returns-in-Some-tables_fault
returns-in-Some-tables_fault c =
    c.broken_at-in-Some-tables_fault.ensures
    ∙ sym (fault_10 c.args.setting c.args.entries.now c.requires.names (sym c.in-Some.ensures.there) c.boot_info_fault.ensures c.in_default.not-Some c.tables_fault.ensures c.in-Some-tables_fault.is)

pub returns-in-Some-blocks_fault : goal.returns-in-Some-blocks_fault
returns-in-Some-blocks_fault c =
    c.broken_at-in-Some-blocks_fault.ensures
    ∙ sym (fault_11 c.args.setting c.args.entries.now c.requires.names (sym c.in-Some.ensures.there) c.boot_info_fault.ensures c.in_default.not-Some c.tables_fault.ensures c.in_default-tables_fault.not-Some c.blocks_fault.ensures c.in-Some-blocks_fault.is)

pub returns : goal.returns
returns c = sym (none_broken c.args.setting c.args.entries.now c.requires.names (sym c.in-Some.ensures.there) c.boot_info_fault.ensures c.in_default.not-Some c.tables_fault.ensures c.in_default-tables_fault.not-Some c.blocks_fault.ensures c.in_default-blocks_fault.not-Some)
