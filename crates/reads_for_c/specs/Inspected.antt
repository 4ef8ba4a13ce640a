-- What C sees of an entry: the entry with its name. Assumes nothing.
use Rattle.std.specs.Prelude.{List, ℕ, leb, length}
use Rattle.rules.specs.Answers.{Answer, given, unless, ◌>>=◌}
use Rattle.rules.specs.declared.Setting.{Setting}
use Rattle.rules.specs.declared.SlotInfo.{SlotInfo}
use Rattle.inspect.specs.Entries.{entry_info, entry_name}
use Rattle.rules.specs.declared.Refusal.TheVariants.{NameTooLong}

-- what is known of an entry, with its name
pub record NamedEntry : Type 0 where
  pub name : List ℕ
  pub info : SlotInfo

-- an entry, or why there is none; 91 where the bytes lent for its name are too few
unfoldable pub named_entry : Setting → List ℕ → ℕ → ℕ → Answer NamedEntry
named_entry s img i room = entry_info s img i >>= λ f.
    unless NameTooLong (leb (length (entry_name s img i)) room) (given (record { name = entry_name s img i; info = f }))

unfoldable pub name_of : Answer NamedEntry → Answer (List ℕ)
name_of a = a >>= λ e. given e.name
