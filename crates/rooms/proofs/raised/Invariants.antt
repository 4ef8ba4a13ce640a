use Rattle.std.proofs.Common.{◌≡◌, ◌≤◌, true, drop}
use Rattle.rules.specs.Lists.{all}
use Rattle.rules.specs.Numbers.{longest}
use Rattle.rules.specs.Table.{range_inside}
use Rattle.rooms.specs.Inner.Candidates.{raised}
use Rattle.rooms.proofs.raised.Given as goal

abbrev pub invariant-loop-i : goal.invariant-loop-i
invariant-loop-i l =
    ((raised l.size l.entries l.start ≡ raised l.size (drop l.i l.entries) l.a) × (l.a ≤ longest))
    × (all (range_inside longest) (drop l.i l.entries) ≡ true)
