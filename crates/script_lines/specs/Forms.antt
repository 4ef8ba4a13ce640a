-- The forms of a line, as docs/REPLAY.md has them: for each, the test that a line has it, and what it then does.
-- Assumes nothing.
use Rattle.std.specs.Prelude.{Bool, cond, ◌&&◌, List, [], ◌∷◌, ℕ, ◌/◌, ◌%◌, eqb, leb}
use Rattle.rules.specs.Lists.{same}
use Rattle.rules.specs.declared.SlotNo.{SlotNo}
use Rattle.commands.specs.declared.Command.TheVariants.{Enable, Disable, Rename, Create, Delete, Repair}
use Rattle.tokens.specs.declared.numbers.Row.{Row}
use Rattle.script_lines.specs.Text.{ascii}
use Rattle.script_lines.specs.declared.Line.{Line}
use Rattle.script_lines.specs.declared.Line.TheVariants.{Change, Question, Command, Named, Steps}
use Rattle.script_lines.specs.declared.Change.TheVariants.{Image, Length, Setting, Put, Copy}
use Rattle.script_lines.specs.declared.Question.TheVariants.{Order, Listing, Slot, Peek, Sum, Dumps}
use Rattle.script_lines.specs.declared.Steps.TheVariants.{Run, Cut, Torn}

-- ---- tests

-- the verb has this name, and so many numbers follow
unfoldable pub takes : List ℕ → List ℕ → Row → ℕ → Bool
takes verb name row n = same verb name && row.numeric && eqb row.count n

-- one number that is a slot's or a length: "slots at most 2^32 - 1"
unfoldable pub takes_slot : List ℕ → List ℕ → Row → Bool
takes_slot verb name row = takes verb name row 1 && leb row.first 4294967295

-- a number, and then pairs of numbers, at least one
unfoldable pub takes_ranges : List ℕ → List ℕ → Row → Bool
takes_ranges verb name row = same verb name && row.numeric && leb 3 row.count && eqb (row.count % 2) 1

abbrev pub slot_of : Row → SlotNo
slot_of row = record { 0 = row.first }

-- ---- forms

abbrev pub Form : Type 0
Form = Bool × Line

-- what a line does by some forms: that of the last that fits, or else `line`. Forms differ in their verb or in their
-- number of words, so that at most one fits.
unfoldable pub by_forms : List Form → Line → Line
by_forms [] line = line
by_forms ((fits, does) ∷ forms) line = by_forms forms (cond fits does line)

module _ (verb : List ℕ) (row : Row) where
  -- `hexed`: the numbers of a line that ends in bytes
  unfoldable pub change_forms : Row → List Form
  change_forms hexed =
      (takes verb (ascii "image") row 2 && leb row.second 255, Change (Image row.first row.second))
      ∷ (takes verb (ascii "length") row 1, Change (Length row.first))
      ∷ (takes verb (ascii "box") row 3, Change (Setting row.first row.second row.third))
      ∷ (takes verb (ascii "put") hexed 1, Change (Put hexed.first))
      ∷ (takes verb (ascii "copy") row 3, Change (Copy row.first row.second row.third))
      ∷ []

  unfoldable pub question_forms : List Form
  question_forms =
      (takes verb (ascii "order") row 0, Question (Order 127))
      ∷ (takes verb (ascii "order") row 1 && leb row.first 508, Question (Order row.first))
      ∷ (takes verb (ascii "list") row 0, Question Listing)
      ∷ (takes_slot verb (ascii "slot") row, Question (Slot (slot_of row)))
      ∷ (takes verb (ascii "peek") row 2, Question (Peek row.first row.second))
      ∷ (takes verb (ascii "sum") row 0, Question Sum)
      ∷ (takes verb (ascii "dumps") row 4, Question (Dumps row.first row.second row.third row.fourth))
      ∷ []

  unfoldable pub command_forms : Row → List Form
  command_forms hexed =
      (takes_slot verb (ascii "enable") row, Command (Enable (slot_of row)))
      ∷ (takes_slot verb (ascii "disable") row, Command (Disable (slot_of row)))
      ∷ (takes_slot verb (ascii "rename") hexed, Named (Rename (slot_of hexed)))
      ∷ (takes_slot verb (ascii "rename") row, Command (Rename (slot_of row)))
      ∷ (takes_slot verb (ascii "create") hexed, Named (Create hexed.first))
      ∷ (takes_slot verb (ascii "create") row, Command (Create row.first))
      ∷ (takes_slot verb (ascii "delete") row, Command (Delete (slot_of row)))
      ∷ (takes verb (ascii "repair") row 0, Command Repair)
      ∷ []

  unfoldable pub steps_forms : List Form
  steps_forms =
      (takes verb (ascii "run") row 1, Steps (Run row.first))
      ∷ (takes verb (ascii "cut") row 1, Steps (Cut row.first 0))
      ∷ (takes verb (ascii "cut") row 2, Steps (Cut row.first row.second))
      ∷ (takes_ranges verb (ascii "torn") row, Steps (Torn row.first (row.count / 2)))
      ∷ []
