-- The boot order place by place, as code meets them from the last place down. Assumes nothing.
use Rattle.std.specs.Prelude.{Bool, true, false, Option, None, Some, List, [], ◌∷◌, ◌++◌, ℕ, ◌+◌, drop, set}
use Rattle.rules.specs.Lists.{member}
use Rattle.rules.specs.Pointers.{places, judged}
use Rattle.rules.specs.declared.SlotNo.{SlotNo}
use Rattle.rules.specs.declared.Place.{Place}
use Rattle.rules.specs.declared.Place.TheVariants.{Erased, Spent, Live, PartWritten, Stray}
use Rattle.places.specs.Inner.Values.{place_value}

-- the slot that a place adds, given whether a higher place has the same value
unfoldable pub added : Place → Bool → Option SlotNo
added Erased held = None
added Spent held = None
added (Live s) true = None
added (Live s) false = Some s
added PartWritten held = None
added (Stray v) held = None

-- a place above place k has the value
abbrev pub occurs_above : List ℕ → ℕ → ℕ → Bool
occurs_above p k v = member v (drop (k + 1) (places p))

-- what place k of a pointer block adds, by the slots' starts
unfoldable pub added_at : List ℕ → List ℕ → ℕ → Option SlotNo
added_at starts p k = added (judged starts (place_value p k)) (occurs_above p k (place_value p k))

-- an order with it at its end
unfoldable pub then : List ℕ → Option SlotNo → List ℕ
then o None = o
then o (Some s) = o ++ (s.0 ∷ [])

-- by how much an order grows
unfoldable pub growth : Option SlotNo → ℕ
growth None = 0
growth (Some s) = 1

-- a row with it stored at an index
unfoldable pub stored : Option SlotNo → ℕ → List ℕ → List ℕ
stored None i row = row
stored (Some s) i row = set row i s.0
