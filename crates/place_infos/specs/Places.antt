-- The places of a pointer block, by their numbers. Assumes nothing.
use Rattle.std.specs.Prelude.{List, ℕ, ltb, get_or}
use Rattle.rules.specs.Answers.{Answer, given, unless}
use Rattle.rules.specs.Table.{starts}
use Rattle.rules.specs.Pointers.{place_count, places, erased_value, judged}
use Rattle.place_infos.specs.declared.Held.{Held}
use Rattle.rules.specs.declared.Refusal.TheVariants.{NoSuchPlace}

-- the value of a place of a pointer block
abbrev pub value_of : List ℕ → ℕ → ℕ
value_of p k = get_or (places p) k erased_value

-- a place by a table: its judgement and its value
unfoldable pub held : List ℕ → List ℕ → ℕ → Held
held t p k = record { judgement = judged (starts t) (value_of p k); value = value_of p k }

-- refusal 93: place number not below the number of places
unfoldable pub held_in : List ℕ → List ℕ → ℕ → Answer Held
held_in t p k = unless NoSuchPlace (ltb k (place_count p)) (given (held t p k))
