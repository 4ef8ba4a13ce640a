use mathlib.Core.Path.{◌≡◌}
use lib.ListN.{take}
use Rattle.rules.specs.Table.{starts}
use Rattle.rules.specs.Pointers.{places}
use Rattle.rules.specs.Commands.{giving}
use Rattle.blocks.specs.Made.{place_list}
use Rattle.place_lists.proofs.places_giving.Given as goal

-- the places below place k that give the slot are noted
abbrev pub invariant-loop-k : goal.invariant-loop-k
invariant-loop-k l = l.found ≡ place_list (giving (starts l.t) l.slot.0 0 (take l.k (places l.p)))
