-- The entries of a table, slots or not, by their numbers. Assumes nothing.
use Rattle.std.specs.Prelude.{Bool, cond, List, [], ℕ, ltb, length, get_or}
use Rattle.rules.specs.Answers.{Answer, given, unless}
use Rattle.rules.specs.Table.{Entry, name, no_entry}
use Rattle.rules.specs.declared.SlotInfo.{SlotInfo}
use Rattle.rules.specs.declared.Refusal.TheVariants.{NoSuchEntry}

-- refusal 92: entry number not below the number of entries
unfoldable pub entry_there : List Entry → ℕ → Bool
entry_there es i = ltb i (length es)

-- the entry with a number
abbrev pub entry_of : List Entry → ℕ → Entry
entry_of es i = get_or es i no_entry

unfoldable pub info_of : List Entry → ℕ → SlotInfo
info_of es i = record {
  entry = record { 0 = i };
  start = (entry_of es i).start;
  size = (entry_of es i).size;
  flags = (entry_of es i).flags;
}

unfoldable pub name_of : List Entry → ℕ → List ℕ
name_of es i = name (entry_of es i)

unfoldable pub info_in : List Entry → ℕ → Answer SlotInfo
info_in es i = unless NoSuchEntry (entry_there es i) (given (info_of es i))

unfoldable pub name_in : List Entry → ℕ → List ℕ
name_in es i = cond (entry_there es i) (name_of es i) []
