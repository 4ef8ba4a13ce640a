-- BOOT_INFO at 0, so that no entry breaks the rule.
use Rattle.std.proofs.Common.{◌≡◌, refl, arith}
use Rattle.rules.specs.Table.{boot_info_at_0}
use Rattle.table.proofs.Told.{none_9}
use Rattle.table.proofs.faults.boot_info_fault.Goals as goal

pub returns-then-start-eq0 : goal.returns-then-start-eq0
unfolding boot_info_at_0
returns-then-start-eq0 c =
    let zero : c.args.boot.now.start ≡ 0 = omega (arith, c.start.ensures, c.if-start-eq0.true) in
    none_9 (record { granule = 0; spt0 = 0; spt1 = 0 }) c.args.entries.now c.requires.names c.requires.six (rw (← c.requires.named, zero) refl)
