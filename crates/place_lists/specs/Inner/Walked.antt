-- What only the contracts of inner functions cite: the places of a pointer block that give a slot. Assumes nothing.
use Rattle.std.specs.Prelude.{List, ℕ}
use Rattle.rules.specs.Table.{starts}
use Rattle.rules.specs.Pointers.{places}
use Rattle.rules.specs.Commands.{giving}

-- the places of a pointer block that give a slot, by a table
abbrev pub places_giving : List ℕ → List ℕ → ℕ → List ℕ
places_giving t p slot = giving (starts t) slot 0 (places p)
