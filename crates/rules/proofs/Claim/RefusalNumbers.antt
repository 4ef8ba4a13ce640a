-- The numbers of refusals: none is 0, so that for C 0 says that there was none; 6 is every command's but repair's; a run
-- is refused 11 or 12. Assumes nothing.
use mathlib.Core.Path.{◌≡◌, refl}
use mathlib.Core.Bool.{Bool, true, false}
use mathlib.Core.Logic.{◌⊎◌, inl, inr}
use mathlib.Core.List.{List}
use Prim.Native.Nat.{ℕ, ◌<◌}
use native.Mathlib.Omega.{arith}
use Rattle.rules.specs.Answers.{Answer, refused, given, unless, number_of}
use Rattle.rules.specs.declared.Setting.{Setting}
use Rattle.rules.specs.declared.Refusal.{Refusal}
use Rattle.rules.specs.Copies.{agree_by}
use Rattle.rules.specs.Commands.{Command, enable, disable, rename, create, delete, repair, job, start}
use Rattle.rules.specs.Cuts.{Progress, may_run}
use Rattle.rules.specs.declared.View.{View}
use Rattle.rules.specs.declared.Refusal.TheVariants.{BadLength, BadGranule, BadAddresses, NoPointers, CopiesDiffer, NoSuchSlot, NotInOrder, NameNotAllowed, NameTaken, NoStepsLeft, OutsideImage, RowTooShort, SlotEmpty, NoPlaceLeft, LengthWrong, NoRowLeft, NoStart, IsInOrder, NoMagic, NoTable, NotAJob, NameTooLong, NoSuchEntry, NoSuchPlace}

abbrev pub NotZero : {A : Type 0} → Answer A → Type 0
NotZero (refused why) = 0 < number_of why
NotZero (given a) = Unit {0}

number_not_zero : (why : Refusal) → 0 < number_of why
number_not_zero BadLength = omega arith
number_not_zero BadGranule = omega arith
number_not_zero BadAddresses = omega arith
number_not_zero NoPointers = omega arith
number_not_zero CopiesDiffer = omega arith
number_not_zero NoSuchSlot = omega arith
number_not_zero NotInOrder = omega arith
number_not_zero NameNotAllowed = omega arith
number_not_zero NameTaken = omega arith
number_not_zero NoStepsLeft = omega arith
number_not_zero OutsideImage = omega arith
number_not_zero RowTooShort = omega arith
number_not_zero SlotEmpty = omega arith
number_not_zero NoPlaceLeft = omega arith
number_not_zero LengthWrong = omega arith
number_not_zero NoRowLeft = omega arith
number_not_zero NoStart = omega arith
number_not_zero IsInOrder = omega arith
number_not_zero (NoMagic faults) = omega arith
number_not_zero (NoTable faults) = omega arith
number_not_zero NotAJob = omega arith
number_not_zero NameTooLong = omega arith
number_not_zero NoSuchEntry = omega arith
number_not_zero NoSuchPlace = omega arith

not_zero : {A : Type 0} (a : Answer A) → NotZero a
not_zero (refused why) = number_not_zero why
not_zero (given a) = tt

pub start_not_zero : (s : Setting) (img : List ℕ) (c : Command) → NotZero (start s img c)
start_not_zero s img c = not_zero (start s img c)

pub run_not_zero : (g len : ℕ) (p : Progress) → NotZero (may_run g len p)
run_not_zero g len p = not_zero (may_run g len p)

-- ---- 6: a pair disagrees

pub refused_6 : (s : Setting) (img : List ℕ) (v : View) → agree_by s img v ≡ false
    → (c : Command) → (c ≡ repair → ⊥) → job s img v c ≡ refused CopiesDiffer
unfolding job unless
refused_6 s img v differ (enable k) h = rw differ
refused_6 s img v differ (disable k) h = rw differ
refused_6 s img v differ (rename k n) h = rw differ
refused_6 s img v differ (create n size) h = rw differ
refused_6 s img v differ (delete k) h = rw differ
refused_6 s img v differ repair h = absurd (h refl)

-- ---- a run is refused 11 or 12

abbrev pub OfARun : {A : Type 0} → Answer A → Type 0
OfARun (refused why) = (why ≡ NoStepsLeft) ⊎ (why ≡ OutsideImage)
OfARun (given a) = Unit {0}

pub run_refusals : (g len : ℕ) (p : Progress) → OfARun (may_run g len p)
unfolding may_run unless
run_refusals g len p = by_tests _ _ _
  where
    by_tests : (t u : Bool) (p : Progress) → OfARun (unless NoStepsLeft t (unless OutsideImage u (given p)))
    by_tests true true p = tt
    by_tests true false p = inr refl
    by_tests false u p = inl refl
