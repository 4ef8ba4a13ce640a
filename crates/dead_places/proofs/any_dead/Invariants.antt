use mathlib.Core.Path.{◌≡◌}
use Rattle.rules.specs.Table.{starts}
use Rattle.dead_places.proofs.DeadPlaces.{dead_from}
use Rattle.dead_places.proofs.any_dead.Given as goal

-- below place k none is dead
abbrev pub invariant-loop-k : goal.invariant-loop-k
invariant-loop-k l = dead_from (starts l.t) l.p 0 ≡ dead_from (starts l.t) l.p l.k
