-- Demand 3 said of what a caller of the code sees. Assumes nothing.
use Rattle.std.specs.Prelude.{Bool, List, [], ◌∷◌, ℕ}
use Rattle.rules.specs.declared.Setting.{Setting}
use Rattle.rules.specs.Book.{the_commands, Reading, Outcome, booked, Untouched, AgreeIfFinished}
use Rattle.joined.specs.Items.{Carried, flash_left, ending}
use Rattle.joined.specs.ReadOut.{Answers}

-- what holds after one item: the flash that it left, and the book's reading by then. What `Told` says of the two is
-- what the readers answer: those of this language, or those for C
pub record Shown (Told : List ℕ → Reading → Type 0) (s : Setting) (t first img : List ℕ) (ended : Outcome) (r : Reading)
    : Type 0 where
  pub told : Told img r
  pub agrees : AgreeIfFinished s img ended
  pub untouched : Untouched s t first img

-- the same after every item of a list, with one choice for each, from a flash and a book's reading on
module _ (Told : List ℕ → Reading → Type 0) (s : Setting) (t first : List ℕ) where
  unfoldable pub AllShown : List Carried → List Bool → List ℕ → Reading → Type 0
  AllShown [] choices img r = Unit {0}
  AllShown (c ∷ cs) [] img r = ⊥
  AllShown (c ∷ cs) (b ∷ bs) img r =
      Shown Told s t first (flash_left s img c) (ending img c) (booked the_commands s img c.command (ending img c) b r)
      × AllShown cs bs (flash_left s img c) (booked the_commands s img c.command (ending img c) b r)

-- the readers tell some reading of the first flash, and there is one choice for each item with which the book, begun
-- with that reading, has what the readers tell after every item
unfoldable pub Demand3AsTold : (List ℕ → Reading → Type 0) → Setting → List ℕ → List Carried → Type 0
Demand3AsTold Told s img cs =
    (r : Reading) × Told img r × ((choices : List Bool) × AllShown Told s r.table img cs choices img r)

-- by the readers of this language
abbrev pub Demand3OfCode : Setting → List ℕ → List Carried → Type 0
Demand3OfCode s img cs = Demand3AsTold (Answers s) s img cs
