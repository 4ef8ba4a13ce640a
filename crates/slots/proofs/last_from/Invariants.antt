use Rattle.std.proofs.Common.{◌≡◌, ◌≤◌, true, length, drop}
use Rattle.rules.specs.Lists.{all}
use Rattle.rules.specs.Table.{is_slot}
use Rattle.slots.proofs.last_from.Given as goal

abbrev pub invariant-loop-i : goal.invariant-loop-i
invariant-loop-i l = (l.i ≤ length l.entries) × (all is_slot (drop l.i l.entries) ≡ true)
