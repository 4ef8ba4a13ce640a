-- The entries of the table read, slots or not, by their numbers. Assumes nothing.
use Rattle.std.specs.Prelude.{List, ℕ}
use Rattle.rules.specs.Bytes.{block}
use Rattle.rules.specs.Answers.{Answer, given, ◌>>=◌}
use Rattle.rules.specs.declared.Setting.{Setting}
use Rattle.rules.specs.Table.{entry_count, entries}
use Rattle.rules.specs.Copies.{view}
use Rattle.rules.specs.Readers.{table_part}
use Rattle.rules.specs.declared.SlotInfo.{SlotInfo}
use Rattle.infos.specs.Entries.{info_in, name_in}

-- refusals 1, 2, 3, 50, 51 and 5, or the number of entries
unfoldable pub entry_total : Setting → List ℕ → Answer ℕ
entry_total s img = view s img >>= λ v. given (entry_count (block img v.table))

-- refusals 1, 2, 3, 50, 51, 5 and 92, or what is known of an entry beside its name
unfoldable pub entry_info : Setting → List ℕ → ℕ → Answer SlotInfo
entry_info s img i = view s img >>= λ v. info_in (entries (block img v.table)) i

-- the name of an entry, up to its zero; empty when refused, which no name of a standing table is
unfoldable pub entry_name : Setting → List ℕ → ℕ → List ℕ
entry_name s img i = name_in (entries (table_part s img)) i
