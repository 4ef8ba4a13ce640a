-- How many slot numbers an order list writes. Assumes nothing.
use Rattle.std.specs.Prelude.{List, ℕ, length}
use Rattle.rules.specs.Answers.{Answer, given, ◌>>=◌}

-- the count of an order that is given
abbrev pub count_of : Answer (List ℕ) → Answer ℕ
count_of a = a >>= λ o. given (length o)
