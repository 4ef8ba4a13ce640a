use Rattle.std.proofs.Common.{◌≡◌, ◌+◌, ◌≤◌, Bool, length, drop}
use Rattle.rules.specs.Lists.{first_clash}
use Rattle.rules.specs.Table.{Entry}
use Rattle.entry_rules.specs.Inner.Rules.{DecidesPairs, entries_before}
use Rattle.entry_rules.proofs.each.first_clash.Given as goal

abbrev pub invariant-loop-i : goal.invariant-loop-i
invariant-loop-i g l =
    (l.i ≤ length l.entries)
    × ((p : Entry → Entry → Bool) → DecidesPairs g.F.Fn l.keep p l.entries
    → l.initial.i + first_clash p (entries_before l.entries l.initial.i) (drop l.initial.i l.entries)
    ≡ l.i + first_clash p (entries_before l.entries l.i) (drop l.i l.entries))
