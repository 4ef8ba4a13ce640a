use mathlib.Core.Path.{◌≡◌}
use Prim.Native.Nat.{◌+◌, ◌≤◌}
use lib.ListN.{length}
use Rattle.std.proofs.Common.{drop}
use Rattle.rules.specs.Lists.{without}
use Rattle.pointer_blocks.proofs.others.Given as goal

-- those before the index are counted
abbrev pub invariant-loop-other : goal.invariant-loop-other
invariant-loop-other l =
    (l.count ≤ l.other-index)
    × (l.count + length (without l.slot.0 (drop l.other-index l.order)) ≡ length (without l.slot.0 l.order))
