use Rattle.std.proofs.Common.{◌≡◌, ◌≤◌, Bool, true, get_or}
use Rattle.rules.specs.Lists.{all}
use Rattle.rules.specs.Table.{Entry, no_entry}
use Rattle.entry_rules.specs.Inner.Rules.{DecidesPairs, entries_before}
use Rattle.entry_rules.proofs.each.earlier_keep.Given as goal

abbrev pub invariant-loop-k : goal.invariant-loop-k
invariant-loop-k g l =
    (l.k ≤ l.fn.e.0)
    × ((p : Entry → Entry → Bool) → DecidesPairs g.F.Fn l.keep p l.entries
    → all (λ d. p d (get_or l.entries l.fn.e.0 no_entry)) (entries_before l.entries l.k) ≡ true)
