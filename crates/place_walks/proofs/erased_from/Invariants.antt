use mathlib.Core.Path.{◌≡◌}
use mathlib.Core.Bool.{true}
use Prim.Native.Nat.{◌≤◌}
use lib.ListN.{drop}
use Rattle.rules.specs.Lists.{all}
use Rattle.rules.specs.Pointers.{place_count, places, all_ones}
use Rattle.place_walks.proofs.erased_from.Given as goal

-- from this place on all places are erased
abbrev pub invariant-loop-from : goal.invariant-loop-from
invariant-loop-from l = (l.from ≤ place_count l.p) × (all all_ones (drop l.from (places l.p)) ≡ true)

abbrev pub decreases-loop-from : goal.decreases-loop-from
decreases-loop-from l = l.from
