-- What a row of a case says, and when it holds. Assumes nothing.
use Rattle.std.specs.Prelude.{Bool, true, false, ◌&&◌, List, [], ◌∷◌, ℕ, ◌+◌, ◌*◌, ◌-◌, eqb, take, drop, get_or, length}
use Rattle.rules.specs.Lists.{same, all}
use Rattle.rules.specs.Bytes.{block}
use Rattle.rules.specs.Answers.{Answer, refused, given, number_of}
use Rattle.rules.specs.Pointers.{place_offset, places}
use Rattle.rules.specs.Readers.{order_list, table_part}
use Rattle.rules.specs.Commands.{Command, start}
use Rattle.rules.specs.Cuts.{half_done}
use Rattle.quarry.specs.Quarry.{quarry_setting}
use Rattle.rules.specs.Table.{entry_count, starts}
use Rattle.rules.specs.declared.Step.{Step}
use Rattle.rules.specs.declared.Step.TheVariants.{Program, Erase}

-- ---- what a row says

-- expected of a command's start: a refusal with this number, this many listed steps, or this place taken
pub data Expected : Type 0 where
  refusal step_count place : ℕ → Expected

-- how far the job goes: not at all, to its end, n steps, or to the inside of step n, an erase that wiped some bytes
pub data Ending : Type 0 where
  not_run to_the_end : Ending
  cut_after : ℕ → Ending
  cut_inside : ℕ → List Bool → Ending

-- a command started, with what is expected of it, and its job run; the boot order expected; the value expected at a place
-- of the pointer block at an address; the bytes expected at an address; the number of entries expected, and the slots'
-- starts
pub data Line : Type 0 where
  command : Command → List Expected → Ending → Line
  order_is : List ℕ → Line
  place_holds : ℕ → ℕ → ℕ → Line
  bytes_at : ℕ → List ℕ → Line
  table_has : ℕ → List ℕ → Line

-- the image from which a case starts, and its lines, each on what the one before left
pub record Row : Type 0 where
  pub flash : List ℕ
  pub script : List Line

-- ---- when a row holds

-- where the quarry image has its pointer blocks
abbrev pub quarry_cpb0 : ℕ
quarry_cpb0 = 0x6000

abbrev pub quarry_cpb1 : ℕ
quarry_cpb1 = 0x7000

-- the lowest byte of place k of the pointer block at an address, by where its places begin
unfoldable pub place_address : ℕ → ℕ → ℕ → ℕ
place_address offset c k = c + (offset + 8 * k)

-- the first of these steps programs the byte at an address
unfoldable pub first_programs : ℕ → List Step → Bool
first_programs a [] = false
first_programs a (Program b v ∷ ss) = eqb b a
first_programs a (Erase b ∷ ss) = false

-- the first step programs the lowest byte of place k in CPB1, the 9th that in CPB0
unfoldable pub takes_place : ℕ → ℕ → List Step → Bool
takes_place offset k ss =
    first_programs (place_address offset quarry_cpb1 k) ss
    && first_programs (place_address offset quarry_cpb0 k) (drop 8 ss)

unfoldable pub as_expected : ℕ → Answer (List Step) → Expected → Bool
as_expected offset (refused why) (refusal n) = eqb (number_of why) n
as_expected offset (refused why) (step_count n) = false
as_expected offset (refused why) (place k) = false
as_expected offset (given ss) (refusal n) = false
as_expected offset (given ss) (step_count n) = eqb (length ss) n
as_expected offset (given ss) (place k) = takes_place offset k ss

-- the order list was given, and is this
unfoldable pub is_order : List ℕ → Answer (List ℕ) → Bool
is_order o (refused n) = false
is_order o (given p) = same p o

-- a table with this many entries and slots that start there
unfoldable pub has_entries : ℕ → List ℕ → List ℕ → Bool
has_entries n at t = eqb (entry_count t) n && same (starts t) at

-- a row with room for every slot of a table
abbrev pub room : ℕ
room = 127

-- listed steps are carried out by a function that stands for `steps`
module _ (CarriedOut : ℕ → List Step → List ℕ → List ℕ) where
  -- the image that a job of these steps leaves
  unfoldable pub ended : Ending → List Step → List ℕ → List ℕ
  ended not_run ss img = img
  ended to_the_end ss img = CarriedOut quarry_setting.granule ss img
  ended (cut_after n) ss img = CarriedOut quarry_setting.granule (take n ss) img
  ended (cut_inside n wiped) ss img =
      half_done quarry_setting.granule wiped (drop (n - 1) ss)
      (CarriedOut quarry_setting.granule (take (n - 1) ss) img)

  -- the image that a command leaves
  unfoldable pub left_after : Ending → Answer (List Step) → List ℕ → List ℕ
  left_after e (refused n) img = img
  left_after e (given ss) img = ended e ss img

  -- a command's answer is as expected, and the rest holds of the image that it leaves
  unfoldable pub command_holds : Answer (List Step) → List Expected → Ending → (List ℕ → Bool) → List ℕ → Bool
  command_holds a es e rest img =
      all (as_expected (place_offset (block img quarry_cpb0)) a) es && rest (left_after e a img)

  -- these lines hold from an image on
  unfoldable pub holds_from : List Line → List ℕ → Bool
  holds_from [] img = true
  holds_from (command c es e ∷ ls) img = command_holds (start quarry_setting img c) es e (holds_from ls) img
  holds_from (order_is o ∷ ls) img = is_order o (order_list quarry_setting img room) && holds_from ls img
  holds_from (place_holds c k v ∷ ls) img = eqb (get_or (places (block img c)) k 0) v && holds_from ls img
  holds_from (bytes_at a bs ∷ ls) img = same (take (length bs) (drop a img)) bs && holds_from ls img
  holds_from (table_has n at ∷ ls) img = has_entries n at (table_part quarry_setting img) && holds_from ls img

  unfoldable pub holds : Row → Bool
  holds r = holds_from r.script r.flash
