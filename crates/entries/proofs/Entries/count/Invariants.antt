use Rattle.std.proofs.Common.{◌≡◌, ◌+◌, ◌≤◌, Bool, length, drop}
use Rattle.rules.specs.Lists.{keep}
use Rattle.rules.specs.Table.{Entry}
use Rattle.entries.specs.Tests.{Decides}
use Rattle.entries.proofs.Entries.count.Given as goal

abbrev pub invariant-loop-i : goal.invariant-loop-i
invariant-loop-i g l =
    (l.met ≤ l.i)
    × ((p : Entry → Bool) → Decides g.F.Fn l.test p l.self → length (keep p l.self) ≡ l.met + length (keep p (drop l.i l.self)))
