-- A list as C gets it: a number returned, and what the lent places hold afterwards. Assumes nothing.
use Rattle.std.specs.Prelude.{◌≡◌, List, ℕ, leb, length}
use Rattle.rules.specs.Answers.{Answer, given, unless, ◌>>=◌}
use Rattle.rules.specs.declared.Setting.{Setting}
use Rattle.rules.specs.Readers.{row_after, slot_info, slot_name}
use Rattle.rules.specs.declared.Refusal.TheVariants.{NameTooLong}
use Rattle.codes.specs.Answered.{number, kept}

-- a list is written into the front of a lent row, and counted
pub record Written (a : Answer (List ℕ)) (r : ℕ) (row row' : List ℕ) (count count' : ℕ) : Type 0 where
  pub returned : r ≡ number a
  pub row_left : row' ≡ row_after a row
  pub count_left : count' ≡ kept length a count

-- the name of a slot, or why there is none
unfoldable pub name_answer : Setting → List ℕ → ℕ → ℕ → Answer (List ℕ)
name_answer s img k room =
    slot_info s img k
    >>= λ f. unless NameTooLong (leb (length (slot_name s img k)) room) (given (slot_name s img k))
