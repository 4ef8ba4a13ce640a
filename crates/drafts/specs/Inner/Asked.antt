-- What only the contracts of inner functions cite: refusals 6 and 7, and those of create before 42, by the copies alone.
-- Assumes nothing.
use Rattle.std.specs.Prelude.{Bool, not, ◌&&◌, List, ℕ, ltb}
use Rattle.rules.specs.Lists.{same, any}
use Rattle.rules.specs.Bytes.{block}
use Rattle.rules.specs.Answers.{Answer, given, unless}
use Rattle.rules.specs.Table.{entry_count, entries, has_name}
use Rattle.rules.specs.Readers.{slot_there}
use Rattle.rules.specs.Commands.{name_allowed, size_right}
use Rattle.rules.specs.declared.View.{View}
use Rattle.rules.specs.declared.Refusal.TheVariants.{CopiesDiffer, NoSuchSlot, NameNotAllowed, NameTaken, LengthWrong, NoRowLeft}

-- the copies of both pairs are equal
unfoldable pub copies_equal : List ℕ → View → Bool
copies_equal img v =
    same (block img v.spt0) (block img v.spt1) && same (block img v.cpb0) (block img v.cpb1)

-- refusals 6 and 7
unfoldable pub slot_asked : List ℕ → View → ℕ → Answer (Unit {0})
slot_asked img v k =
    unless CopiesDiffer (copies_equal img v) (unless NoSuchSlot (slot_there (entries (block img v.table)) k) (given tt))

-- refusals 6, 9, 10, 40 and 41
unfoldable pub new_asked : List ℕ → View → List ℕ → ℕ → Answer (Unit {0})
new_asked img v n size =
    unless CopiesDiffer (copies_equal img v)
    (unless NameNotAllowed (name_allowed n)
    (unless NameTaken (not (any (has_name n) (entries (block img v.table))))
    (unless LengthWrong (size_right size)
    (unless NoRowLeft (ltb (entry_count (block img v.table)) 127)
    (given tt)))))
