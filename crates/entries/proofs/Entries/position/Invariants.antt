use Rattle.std.proofs.Common.{◌≡◌, ◌+◌, Bool, drop}
use Rattle.rules.specs.Table.{Entry}
use Rattle.walks.specs.Find.{find}
use Rattle.entries.specs.Tests.{Decides}
use Rattle.entries.proofs.Entries.position.Given as goal

abbrev pub invariant-loop-i : goal.invariant-loop-i
invariant-loop-i g l =
    (p : Entry → Bool) → Decides g.F.Fn l.test p l.self → find p l.self ≡ l.i + find p (drop l.i l.self)
