-- What a job's definitions rest on: the places' numbers that it holds, and the first of some steps. Assumes nothing.
use Rattle.std.specs.Prelude.{List, [], ◌∷◌, ℕ, zero, suc, min, drop, Option, None, Some}
use Rattle.rules.specs.Bytes.{field}
use Rattle.rules.specs.declared.Step.{Step}

-- the room for places' numbers in a job
abbrev pub place_room : ℕ
place_room = 508

-- n numbers of two bytes each, lowest byte first, from the front
unfoldable pub numbers_from : ℕ → List ℕ → List ℕ
numbers_from zero bs = []
numbers_from (suc n) bs = field 0 2 bs ∷ numbers_from n (drop 2 bs)

-- of the places' numbers the first ones, as many as are meant
abbrev pub meant : ℕ → List ℕ → List ℕ
meant count ks = numbers_from (min count place_room) ks

-- the step that comes next
unfoldable pub first_step : List Step → Option Step
first_step [] = None
first_step (s ∷ ss) = Some s
