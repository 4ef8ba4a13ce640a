-- A test, a judgement of a place and a fault of a table copy as numbers. Assumes nothing.
use Rattle.std.specs.Prelude.{Bool, cond, ℕ, Option, Some, None}
use Rattle.rules.specs.Answers.{rule_number, no_entry_number}
use Rattle.rules.specs.declared.Fault.{Fault}
use Rattle.rules.specs.declared.Place.{Place}
use Rattle.rules.specs.declared.Place.TheVariants.{Erased, Spent, Live, PartWritten, Stray}

-- 1 where it holds, else 0
unfoldable pub bit : Bool → ℕ
bit b = cond b 1 0

-- 0 for erased, 1 for live; of the dead 2 for spent, 3 for part-written, 4 for stray
unfoldable pub place_kind : Place → ℕ
place_kind Erased = 0
place_kind (Live s) = 1
place_kind Spent = 2
place_kind PartWritten = 3
place_kind (Stray v) = 4

-- the slot of a live place, else 0
unfoldable pub place_slot : Place → ℕ
place_slot Erased = 0
place_slot (Live s) = s.0
place_slot Spent = 0
place_slot PartWritten = 0
place_slot (Stray v) = 0

-- the number of the rule that is broken first, 1 to 11; 0 for a copy that stands
unfoldable pub fault_rule : Option Fault → ℕ
fault_rule None = 0
fault_rule (Some f) = rule_number f.rule

-- the entry that breaks it, 127 where the rule is about no entry by itself, and for a copy that stands
unfoldable pub fault_entry : Option Fault → ℕ
fault_entry None = no_entry_number
fault_entry (Some f) = f.entry.0
