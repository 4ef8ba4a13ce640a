use Rattle.std.proofs.Common.{◌≡◌, true}
use Rattle.entry_rules.specs.Inner.Ascending.{ascend}
use Rattle.entry_rules.proofs.ranges.ascending.Given as goal

abbrev pub invariant-loop-i : goal.invariant-loop-i
invariant-loop-i l = ascend l.entries l.i ≡ true
