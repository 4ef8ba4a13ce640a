use mathlib.Core.Path.{◌≡◌}
use lib.ListN.{drop}
use Rattle.rules.specs.Lists.{member}
use Rattle.rules.specs.Pointers.{places}
use Rattle.place_walks.specs.Inner.Added.{occurs_above}
use Rattle.place_walks.proofs.occurs_above.Given as goal

-- what is left to walk decides
abbrev pub invariant-loop-k : goal.invariant-loop-k
invariant-loop-k l = occurs_above l.p l.fn.place.0 l.v ≡ member l.v (drop l.k (places l.p))
