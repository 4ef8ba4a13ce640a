-- An answer as numbers: the one returned, and what a lent number is afterwards. Assumes nothing.
use Rattle.std.specs.Prelude.{ℕ}
use Rattle.rules.specs.Answers.{Answer, refused, given, number_of}

-- 0, or the number of the refusal, which is never 0
unfoldable pub number : {A : Type 0} → Answer A → ℕ
number (refused why) = number_of why
number (given a) = 0

-- what a lent number is afterwards: on a refusal what it was
unfoldable pub kept : {A : Type 0} → (A → ℕ) → Answer A → ℕ → ℕ
kept f (refused why) old = old
kept f (given a) old = f a
