use Rattle.std.proofs.Common.{◌≡◌, Bool, drop}
use Rattle.rules.specs.Lists.{all}
use Rattle.rules.specs.Table.{Entry}
use Rattle.entries.specs.Tests.{Decides}
use Rattle.entries.proofs.Entries.all.Given as goal

abbrev pub invariant-loop-i : goal.invariant-loop-i
invariant-loop-i g l = (p : Entry → Bool) → Decides g.F.Fn l.test p l.self → all p l.self ≡ all p (drop l.i l.self)
