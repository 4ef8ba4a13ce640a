use Rattle.std.proofs.Common.{◌≡◌, ◌+◌, ◌-◌, ◌≤◌, length, drop}
use Rattle.walks.specs.Find.{find}
use Rattle.walks.specs.Entries.{slot_from}
use Rattle.slots.proofs.none_before.Given as goal

abbrev pub invariant-loop-i : goal.invariant-loop-i
invariant-loop-i l = (l.i ≤ length l.entries) × (find (slot_from l.start) l.entries ≡ l.i + find (slot_from l.start) (drop l.i l.entries))

abbrev pub decreases-loop-i : goal.decreases-loop-i
decreases-loop-i l = length l.entries - l.i
