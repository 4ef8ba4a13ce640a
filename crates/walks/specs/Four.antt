-- A test of four numbers in a row, as code that takes four steps at once makes it. Assumes nothing.
use Rattle.std.specs.Prelude.{Bool, ◌||◌, ℕ, ◌+◌}

-- one of the four from i on passes
unfoldable pub one_of_four : (ℕ → Bool) → ℕ → Bool
one_of_four f i = f i || f (i + 1) || f (i + 2) || f (i + 3)
