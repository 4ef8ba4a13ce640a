-- What it means that a text was put into a buffer from an index on. Assumes nothing.
use Rattle.std.specs.Prelude.{◌≡◌, List, ℕ, ◌+◌, min, max, length}
use Rattle.std.proofs.lemmas.List.Edits.{sets}

-- the buffer afterwards has the text at that index, as far as it fits, and is otherwise as it was;
-- the answer is where the text ends, or the buffer's end where it does not fit
pub record Put (out : List ℕ) (at : ℕ) (text after : List ℕ) (end : ℕ) : Type 0 where
  pub stored : after ≡ sets out at text
  pub ended : end ≡ max at (min (at + length text) (length out))
