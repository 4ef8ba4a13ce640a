-- Refusals, each with its number of the documents' tables; an answer is a refusal, or what was asked for. Assumes nothing.
use Rattle.std.specs.Prelude.{Bool, true, false, ℕ, Option, Some, None, Result}
pub use Rattle.std.specs.Prelude.{Ok as given, Err as refused}
use Rattle.rules.specs.declared.TableRule.{TableRule}
use Rattle.rules.specs.declared.TableRule.TheVariants.{HeaderRight, CountRight, NameRight, NamesDiffer, RangeAligned, RangeInside, RangesApart, SixNamed, BootInfoAtZero, TablesAsTold, BlocksOnGranules}
use Rattle.rules.specs.declared.Fault.{Fault}
use Rattle.rules.specs.declared.Refusal.{Refusal}
use Rattle.rules.specs.declared.Refusal.TheVariants.{BadLength, BadGranule, BadAddresses, NoPointers, CopiesDiffer, NoSuchSlot, NotInOrder, NameNotAllowed, NameTaken, NoStepsLeft, OutsideImage, RowTooShort, SlotEmpty, NoPlaceLeft, LengthWrong, NoRowLeft, NoStart, IsInOrder, NoMagic, NoTable, NotAJob, NameTooLong, NoSuchEntry, NoSuchPlace}

-- ---- the rules of a table that stands, and the first that a copy breaks

abbrev pub rule_number : TableRule → ℕ
rule_number HeaderRight = 1
rule_number CountRight = 2
rule_number NameRight = 3
rule_number NamesDiffer = 4
rule_number RangeAligned = 5
rule_number RangeInside = 6
rule_number RangesApart = 7
rule_number SixNamed = 8
rule_number BootInfoAtZero = 9
rule_number TablesAsTold = 10
rule_number BlocksOnGranules = 11

-- told where a rule is about no entry by itself: entries have numbers below it
abbrev pub no_entry_number : ℕ
no_entry_number = 127

-- a rule broken at an entry
abbrev pub broken : TableRule → ℕ → Option Fault
broken rule entry = Some (record { rule = rule; entry = record { 0 = entry } })

-- of a table copy that stands
abbrev pub no_fault : Option Fault
no_fault = None

-- ---- refusals

-- the fixed number of each: 50 and 51 carry the faults of the two table copies; from 90 on they are our own
abbrev pub number_of : Refusal → ℕ
number_of BadLength = 1
number_of BadGranule = 2
number_of BadAddresses = 3
number_of NoPointers = 5
number_of CopiesDiffer = 6
number_of NoSuchSlot = 7
number_of NotInOrder = 8
number_of NameNotAllowed = 9
number_of NameTaken = 10
number_of NoStepsLeft = 11
number_of OutsideImage = 12
number_of RowTooShort = 13
number_of SlotEmpty = 14
number_of NoPlaceLeft = 15
number_of LengthWrong = 40
number_of NoRowLeft = 41
number_of NoStart = 42
number_of IsInOrder = 43
number_of (NoMagic faults) = 50
number_of (NoTable faults) = 51
number_of NotAJob = 90
number_of NameTooLong = 91
number_of NoSuchEntry = 92
number_of NoSuchPlace = 93

-- ---- answers: refused, or given what was asked for

infixl 20 ◌>>=◌
abbrev pub Answer : Type 0 → Type 0
Answer A = Result A Refusal

-- refused so unless the test passes
module _ {A : Type 0} where
  unfoldable pub unless : Refusal → Bool → Answer A → Answer A
  unless why true a = a
  unless why false a = refused why

-- the first refusal stands; what is given is asked further
abbrev pub ◌>>=◌ : {A B : Type 0} → Answer A → (A → Answer B) → Answer B
refused why >>= f = refused why
given a >>= f = f a
