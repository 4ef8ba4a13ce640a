use Rattle.std.proofs.Common.{◌≡◌, ◌-◌, ◌≤◌, drop}
use Rattle.rules.specs.Lists.{member}
use Rattle.rules.specs.Pointers.{place_count, places}
use Rattle.place_walks.specs.Inner.Added.{occurs_above}
use Rattle.place_walks.proofs.not_held_to.Given as goal

-- what is left to walk decides
abbrev pub invariant-loop-to : goal.invariant-loop-to
invariant-loop-to l = (l.to ≤ place_count l.p) × (occurs_above l.p l.fn.place.0 l.v ≡ member l.v (drop l.to (places l.p)))

abbrev pub decreases-loop-to : goal.decreases-loop-to
decreases-loop-to l = l.free - l.to
