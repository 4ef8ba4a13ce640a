-- An item carried out by the functions for C, as their caller sees it: a job is the bytes of a lent buffer, an answer a
-- number. Assumes nothing.
use Rattle.std.specs.Prelude.{◌≡◌, Bool, cond, eqb, List, [], ◌∷◌, map, ℕ, zero, suc, length}
use Rattle.rules.specs.Answers.{Answer, refused, given, number_of, no_fault}
use Rattle.rules.specs.declared.TableFaults.{TableFaults}
use Rattle.rules.specs.declared.Refusal.{Refusal}
use Rattle.rules.specs.declared.Refusal.TheVariants.{BadLength, BadGranule, BadAddresses, NoPointers, CopiesDiffer, NoSuchSlot, NotInOrder, NameNotAllowed, NameTaken, NoStepsLeft, OutsideImage, RowTooShort, SlotEmpty, NoPlaceLeft, LengthWrong, NoRowLeft, NoStart, IsInOrder, NoMagic, NoTable, NotAJob, NameTooLong, NoSuchEntry, NoSuchPlace}
use Rattle.rules.specs.declared.Setting.{Setting}
use Rattle.rules.specs.Commands.{Command, start}
use Rattle.jobs.specs.declared.Job.{Job}
use Rattle.job_bytes.specs.Form.{job_size, job_from}
use Rattle.handing.specs.Begun.{for_job, BegunAs}
use Rattle.runs_for_c.specs.Ran.{Lent, lent, running, RanAs}
use Rattle.joined.specs.Runs.{Run}
use Rattle.joined.specs.Items.{Carried, flash_left}

-- ---- runs

-- a call of `delunkpawi_run`: its budget, the number lent to it for the count, the number that it returned, and the
-- buffer, the image and the count that it left
pub record RunForC : Type 0 where
  pub budget : ℕ
  pub count : ℕ
  pub number : ℕ
  pub left : Lent

-- each run is as the contract of `delunkpawi_run` says, on the buffer and the image that the last one left
unfoldable pub AllRanForC : List ℕ → List ℕ → List RunForC → Type 0
AllRanForC bytes img [] = Unit {0}
AllRanForC bytes img (r ∷ rs) =
    RanAs r.number r.budget (lent bytes img r.count) r.left (running bytes img)
    × AllRanForC r.left.job r.left.image rs

-- ---- a start, and runs of its job

-- a command, the buffer lent to its start, the number that this returned, the buffer that it left, the runs, and
-- which bytes a power failure inside an erase had wiped
pub record CarriedForC : Type 0 where
  pub command : Command
  pub buffer : List ℕ
  pub number : ℕ
  pub begun : List ℕ
  pub runs : List RunForC
  pub wiped : List Bool

-- what the contract of its start says
unfoldable pub BegunForC : Setting → List ℕ → CarriedForC → Type 0
BegunForC s img c =
    BegunAs c.number c.buffer c.begun (length img) s.granule
    (for_job c.buffer (start s img c.command))

-- 0: there is a job, which is run; another number: there is none
unfoldable pub RunsAfter : ℕ → List ℕ → List ℕ → List RunForC → Type 0
RunsAfter zero bytes img rs = AllRanForC bytes img rs
RunsAfter (suc n) bytes img rs = rs ≡ []

-- it is as the contracts say, from this flash, with a buffer as long as a job's
unfoldable pub CarriedOutForC : Setting → List ℕ → CarriedForC → Type 0
CarriedOutForC s img c =
    (length c.buffer ≡ job_size) × (BegunForC s img c × RunsAfter c.number c.begun img c.runs)

-- ---- the same by the value of the job that the buffer holds

-- one refusal of each number: of 50 and 51 one that tells no fault
abbrev no_faults : TableFaults
no_faults = record { fault0 = no_fault; fault1 = no_fault }

unfoldable pub refusals : List Refusal
refusals =
    BadLength ∷ BadGranule ∷ BadAddresses ∷ NoPointers ∷ CopiesDiffer ∷ NoSuchSlot ∷ NotInOrder ∷ NameNotAllowed
    ∷ NameTaken ∷ NoStepsLeft ∷ OutsideImage ∷ RowTooShort ∷ SlotEmpty ∷ NoPlaceLeft ∷ LengthWrong ∷ NoRowLeft
    ∷ NoStart ∷ IsInOrder ∷ NoMagic no_faults ∷ NoTable no_faults ∷ NotAJob ∷ NameTooLong ∷ NoSuchEntry
    ∷ NoSuchPlace ∷ []

-- the first of some that has a number
unfoldable pub first_numbered : ℕ → List Refusal → Refusal
first_numbered n [] = NotAJob
first_numbered n (why ∷ rest) = cond (eqb (number_of why) n) why (first_numbered n rest)

-- a refusal that has the number told
unfoldable pub numbered : ℕ → Refusal
numbered n = first_numbered n refusals

unfoldable pub did_by : ℕ → ℕ → Answer ℕ
did_by zero count = given count
did_by (suc n) count = refused (numbered (suc n))

unfoldable pub run_by_value : RunForC → Run
run_by_value r = record {
  budget = r.budget;
  returned = record { job = job_from r.left.job; did = did_by r.number r.left.done };
  image = r.left.image;
}

unfoldable pub begun_by_value : ℕ → List ℕ → Answer Job
begun_by_value zero bytes = given (job_from bytes)
begun_by_value (suc n) bytes = refused (numbered (suc n))

unfoldable pub by_value : CarriedForC → Carried
by_value c = record {
  command = c.command;
  begun = begun_by_value c.number c.begun;
  runs = map run_by_value c.runs;
  wiped = c.wiped;
}

-- ---- a list of them, each on the flash that the last one left

unfoldable pub AllCarriedOutForC : Setting → List ℕ → List CarriedForC → Type 0
AllCarriedOutForC s img [] = Unit {0}
AllCarriedOutForC s img (c ∷ cs) =
    CarriedOutForC s img c × AllCarriedOutForC s (flash_left s img (by_value c)) cs
