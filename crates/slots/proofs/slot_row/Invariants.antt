use Rattle.std.proofs.Common.{◌≡◌, ◌+◌, drop}
use Rattle.rules.specs.Readers.{slot_row}
use Rattle.slots.proofs.slot_row.Given as goal

abbrev pub invariant-loop-i : goal.invariant-loop-i
invariant-loop-i l = slot_row l.entries l.initial.left ≡ l.i + slot_row (drop l.i l.entries) l.left
