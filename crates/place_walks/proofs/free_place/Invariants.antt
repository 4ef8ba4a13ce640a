use mathlib.Core.Path.{◌≡◌}
use mathlib.Core.Bool.{true}
use lib.ListN.{drop}
use Rattle.rules.specs.Lists.{all}
use Rattle.rules.specs.Pointers.{places, all_ones}
use Rattle.place_walks.proofs.free_place.Given as goal

-- from place k on all places are erased
abbrev pub invariant-loop-k : goal.invariant-loop-k
invariant-loop-k l = all all_ones (drop l.k (places l.p)) ≡ true
