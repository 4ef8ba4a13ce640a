-- What C is told: the number returned, and what each lent place holds afterwards, told or, on a refusal, as it was. Before
-- and after stand side by side. Assumes nothing.
use Rattle.std.specs.Prelude.{◌≡◌, List, ℕ, length}
use Rattle.rules.specs.Answers.{Answer}
use Rattle.rules.specs.Readers.{row_after}
use Rattle.rules.specs.declared.View.{View}
use Rattle.rules.specs.declared.SlotInfo.{SlotInfo}
use Rattle.rules.specs.declared.TableFaults.{TableFaults}
use Rattle.conditions.specs.declared.Condition.{Condition}
use Rattle.place_infos.specs.declared.Held.{Held}
use Rattle.codes.specs.Answered.{number, kept}
use Rattle.codes.specs.Judged.{bit, place_kind, place_slot, fault_rule, fault_entry}
use Rattle.reads_for_c.specs.Inspected.{NamedEntry, name_of}

-- a number of slots, entries or places
pub record CountTold (a : Answer ℕ) (r count count' : ℕ) : Type 0 where
  pub returned : r ≡ number a
  pub count_left : count' ≡ kept (λ n. n) a count

pub record SlotTold (a : Answer SlotInfo) (r entry entry' start start' size size' flags flags' : ℕ) : Type 0 where
  pub returned : r ≡ number a
  pub entry_left : entry' ≡ kept (λ f. f.entry.0) a entry
  pub start_left : start' ≡ kept (λ f. f.start) a start
  pub size_left : size' ≡ kept (λ f. f.size) a size
  pub flags_left : flags' ≡ kept (λ f. f.flags) a flags

-- where the pointer blocks are, and which copies are read
pub record ViewTold (a : Answer View) (r cpb0 cpb0' cpb1 cpb1' table table' pointers pointers' : ℕ) : Type 0 where
  pub returned : r ≡ number a
  pub cpb0_left : cpb0' ≡ kept (λ v. v.cpb0) a cpb0
  pub cpb1_left : cpb1' ≡ kept (λ v. v.cpb1) a cpb1
  pub table_left : table' ≡ kept (λ v. v.table) a table
  pub pointers_left : pointers' ≡ kept (λ v. v.pointers) a pointers

-- 1 for a block that stands and for a pair that agrees, else 0
pub record CopiesTold
    (a : Answer Condition)
    (r table0 table0' table1 table1' pointers0 pointers0' pointers1 pointers1' tables tables' pointers pointers' : ℕ)
    : Type 0 where
  pub returned : r ≡ number a
  pub table0_left : table0' ≡ kept (λ k. bit k.spt0) a table0
  pub table1_left : table1' ≡ kept (λ k. bit k.spt1) a table1
  pub pointers0_left : pointers0' ≡ kept (λ k. bit k.cpb0) a pointers0
  pub pointers1_left : pointers1' ≡ kept (λ k. bit k.cpb1) a pointers1
  pub tables_left : tables' ≡ kept (λ k. bit k.tables) a tables
  pub pointers_left : pointers' ≡ kept (λ k. bit k.pointers) a pointers

-- of each table copy the first rule that it breaks, and the entry that breaks it; 0 and 127 of one that stands
pub record FaultsTold (a : Answer TableFaults) (r rule0 rule0' entry0 entry0' rule1 rule1' entry1 entry1' : ℕ) : Type 0 where
  pub returned : r ≡ number a
  pub rule0_left : rule0' ≡ kept (λ f. fault_rule f.fault0) a rule0
  pub entry0_left : entry0' ≡ kept (λ f. fault_entry f.fault0) a entry0
  pub rule1_left : rule1' ≡ kept (λ f. fault_rule f.fault1) a rule1
  pub entry1_left : entry1' ≡ kept (λ f. fault_entry f.fault1) a entry1

-- an entry, its name in the front of the lent bytes and counted
pub record EntryTold
    (a : Answer NamedEntry)
    (r : ℕ)
    (name name' : List ℕ)
    (count count' start start' size size' flags flags' : ℕ)
    : Type 0 where
  pub returned : r ≡ number a
  pub name_left : name' ≡ row_after (name_of a) name
  pub count_left : count' ≡ kept (λ e. length e.name) a count
  pub start_left : start' ≡ kept (λ e. e.info.start) a start
  pub size_left : size' ≡ kept (λ e. e.info.size) a size
  pub flags_left : flags' ≡ kept (λ e. e.info.flags) a flags

-- what a place holds
pub record PlaceTold (a : Answer Held) (r kind kind' slot slot' value value' : ℕ) : Type 0 where
  pub returned : r ≡ number a
  pub kind_left : kind' ≡ kept (λ h. place_kind h.judgement) a kind
  pub slot_left : slot' ≡ kept (λ h. place_slot h.judgement) a slot
  pub value_left : value' ≡ kept (λ h. h.value) a value
