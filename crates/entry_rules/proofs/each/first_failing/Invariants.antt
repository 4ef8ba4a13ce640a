use Rattle.std.proofs.Common.{◌≡◌, ◌+◌, Bool, drop}
use Rattle.rules.specs.Lists.{first_failing}
use Rattle.rules.specs.Table.{Entry}
use Rattle.entries.specs.Tests.{Decides}
use Rattle.entry_rules.proofs.each.first_failing.Given as goal

abbrev pub invariant-loop-i : goal.invariant-loop-i
invariant-loop-i g l =
    (p : Entry → Bool) → Decides g.F.Fn l.keeps p l.entries
    → first_failing p l.entries ≡ l.i + first_failing p (drop l.i l.entries)
