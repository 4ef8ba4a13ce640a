use mathlib.Core.Path.{◌≡◌}
use mathlib.Core.List.{[]}
use lib.ListN.{drop}
use Rattle.rules.specs.Table.{starts}
use Rattle.rules.specs.Pointers.{places, order}
use Rattle.place_lists.proofs.comes_first.Given as goal

-- no place from k on is live
abbrev pub invariant-loop-k : goal.invariant-loop-k
invariant-loop-k l = order (starts l.t) (drop l.k (places l.p)) ≡ []
