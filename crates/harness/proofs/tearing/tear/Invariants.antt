use mathlib.Core.Path.{◌≡◌}
use Prim.Native.Nat.{◌+◌, ◌≤◌}
use lib.ListN.{length}
use Rattle.harness.proofs.Choices.{after_turns}
use Rattle.harness.proofs.tearing.tear.Given as goal

abbrev pub invariant-loop-i : goal.invariant-loop-i
invariant-loop-i l =
    (l.at + l.size ≤ length l.initial.image)
    × ((l.i ≤ l.size) × ((length l.image ≡ length l.initial.image) × (l.image ≡ after_turns l.at l.size l.choice l.initial.image l.i)))
