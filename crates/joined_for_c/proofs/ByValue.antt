-- Calls of the functions for C, by the values of the jobs that the buffers hold, are calls as `joined` has them. Assumes
-- nothing.
use mathlib.Core.Path.{◌≡◌, refl, sym, ap, ◌∙◌}
use mathlib.Core.List.{List, [], ◌∷◌, map}
use Prim.Native.Nat.{ℕ, zero, suc, ◌<◌}
use native.Mathlib.Omega.{arith}
use borrow.Author.Tests.{eq-eqb}
use lib.ListN.{length}
use Rattle.rules.specs.Answers.{Answer, refused, given, unless, ◌>>=◌, number_of}
use Rattle.rules.specs.declared.Setting.{Setting}
use Rattle.rules.specs.declared.Refusal.{Refusal}
use Rattle.rules.specs.Commands.{start}
use Rattle.rules.specs.Cuts.{Progress, run}
use Rattle.rules.specs.declared.Step.{Step}
use mathlib.Core.Logic.{◌⊎◌, inl, inr}
use Rattle.rules.specs.declared.Refusal.TheVariants.{BadLength, BadGranule, BadAddresses, NoPointers, CopiesDiffer, NoSuchSlot, NotInOrder, NameNotAllowed, NameTaken, NoStepsLeft, OutsideImage, RowTooShort, SlotEmpty, NoPlaceLeft, LengthWrong, NoRowLeft, NoStart, IsInOrder, NoMagic, NoTable, NotAJob, NameTooLong, NoSuchEntry, NoSuchPlace}
use Rattle.rules.proofs.Lists.Tests.{given_inj, unless-given}
use Rattle.jobs.specs.Jobs.{under_way, admitted, steps_done, advanced, ran, progress_after, RanBy, did_by_run, image_after_run}
use Rattle.jobs.specs.declared.Job.{Job}
use Rattle.jobs.proofs.Running.{run_returned}
use Rattle.blocks.specs.Made.{Lists}
use Rattle.job_bytes.specs.Form.{job_size, malformed, job_from, holds_job, decoded}
use Rattle.handing.specs.Begun.{for_job, BegunAs}
use Rattle.runs_for_c.specs.Ran.{lent, running, RanAs}
use Rattle.joined.specs.Runs.{AllRan}
use Rattle.joined.specs.Items.{BegunSo, RunsOf, CarriedOut, flash_left, AllCarriedOut}
use Rattle.joined_for_c.specs.Items.{refusals, first_numbered, RunForC, AllRanForC, CarriedForC, BegunForC, RunsAfter, CarriedOutForC, numbered, did_by, run_by_value, begun_by_value, by_value, AllCarriedOutForC}
use Rattle.rules.proofs.Claim.RefusalNumbers.{NotZero, start_not_zero, run_not_zero, OfARun, run_refusals}

-- ---- a buffer that holds a job

abbrev Held : List ℕ → Type 0
Held bytes = decoded bytes ≡ given (job_from bytes)

-- the job that it holds
the_job : (bytes : List ℕ) (j : Job) → decoded bytes ≡ given j → job_from bytes ≡ j
unfolding decoded
the_job bytes j e = given_inj (job_from bytes) j (unless-given malformed (holds_job bytes) _ j e).1

held : (bytes : List ℕ) (j : Job) → decoded bytes ≡ given j → Held bytes
held bytes j e = e ∙ ap given (sym (the_job bytes j e))

-- ---- runs

-- the refusal of a run by its number
numbered_again : (why : Refusal) → (why ≡ NoStepsLeft) ⊎ (why ≡ OutsideImage) → why ≡ numbered (number_of why)
unfolding numbered first_numbered refusals
numbered_again why (inl e) = rw e
numbered_again why (inr e) = rw e

-- any refusal has the number of the one that its number gives
number_again : (why : Refusal) → number_of (numbered (number_of why)) ≡ number_of why
unfolding numbered first_numbered refusals
number_again BadLength = refl
number_again BadGranule = refl
number_again BadAddresses = refl
number_again NoPointers = refl
number_again CopiesDiffer = refl
number_again NoSuchSlot = refl
number_again NotInOrder = refl
number_again NameNotAllowed = refl
number_again NameTaken = refl
number_again NoStepsLeft = refl
number_again OutsideImage = refl
number_again RowTooShort = refl
number_again SlotEmpty = refl
number_again NoPlaceLeft = refl
number_again LengthWrong = refl
number_again NoRowLeft = refl
number_again NoStart = refl
number_again IsInOrder = refl
number_again (NoMagic faults) = refl
number_again (NoTable faults) = refl
number_again NotAJob = refl
number_again NameTooLong = refl
number_again NoSuchEntry = refl
number_again NoSuchPlace = refl

refused_did : (n count : ℕ) → 0 < n → did_by n count ≡ refused (numbered n)
unfolding did_by
refused_did zero count h = absurd (omega (arith, h))
refused_did (suc n) count h = refl

-- what a run for C leaves, by the answer that the run of its job was to give
module _ (bytes img : List ℕ) (r : RunForC) where
  abbrev j : Job
  j = job_from bytes

  abbrev Went : Type 0
  Went = RanBy j r.budget img (run_by_value r).returned r.left.image × Held r.left.job

  run_refused : (n : ℕ)
      → Held bytes
      → 0 < n
      → admitted j img ≡ refused (numbered n)
      → r.number ≡ n
      → r.left ≡ lent bytes img r.count
      → Went
  unfolding run_by_value ran progress_after under_way
  run_refused n holds positive a number left =
      let went = run_returned j img r.budget (refused (numbered n)) img (rw (did_by_run, a)) (rw (image_after_run, a)) in
      (rw (number, left, refused_did n r.count positive) went, rw left holds)

  run_went : (p : Progress)
      → admitted j img ≡ given p
      → r.number ≡ 0
      → decoded r.left.job ≡ given (advanced j (steps_done r.budget p))
      → r.left.image ≡ (run j.plan.granule r.budget p).image
      → r.left.done ≡ steps_done r.budget p
      → Went
  unfolding run_by_value ran progress_after did_by
  run_went p a number job image done =
      let n : ℕ = steps_done r.budget p in
      let went = run_returned j img r.budget (given n) r.left.image (rw (did_by_run, a))
      (image ∙ rw (image_after_run, a)) in
      let same = the_job r.left.job (advanced j n) job in
      (rw (number, done, same) went, held r.left.job (advanced j n) job)

  one_run : Held bytes
      → RanAs r.number r.budget (lent bytes img r.count) r.left (running bytes img)
      → Went
  unfolding running RanAs admitted
  one_run holds went =
      by_answer (admitted j img) refl (run_not_zero j.plan.granule j.plan.len (under_way j img))
      (run_refusals j.plan.granule j.plan.len (under_way j img)) (rw holds at went)
    where
      by_answer : (a : Answer Progress)
          → admitted j img ≡ a
          → NotZero a
          → OfARun a
          → RanAs r.number r.budget (lent bytes img r.count) r.left
          (a >>= λ p. given (record { job = j; progress = p }))
          → Went
      by_answer (refused why) e positive one_of (number, left) =
          run_refused (number_of why) holds positive (e ∙ ap refused (numbered_again why one_of)) number left
      by_answer (given p) e positive one_of (number, (job, (image, (done, bytes)))) = run_went p e number job image done

runs_by_value : (rs : List RunForC) (bytes img : List ℕ)
    → Held bytes
    → AllRanForC bytes img rs
    → AllRan (job_from bytes) img (map run_by_value rs)
unfolding AllRanForC AllRan run_by_value
runs_by_value [] bytes img holds went = tt
runs_by_value (r ∷ rs) bytes img holds (now, rest) =
    let (one, next) = one_run bytes img r holds now in
    (one, runs_by_value rs r.left.job r.left.image next rest)

-- ---- a start

-- a job of these steps is started: the one place where the bytes that a start leaves are looked at
lists_by_value : (number : ℕ) (before after : List ℕ) (len granule : ℕ) (ss : List Step)
    → BegunAs number before after len granule (given ss)
    → (number ≡ 0) × (Held after × Lists (job_from after) len granule ss)
unfolding BegunAs
lists_by_value number before after len granule ss (none, (j, holds, lists)) =
    (none, (held after j holds, rw (the_job after j holds) lists))

module _ (s : Setting) (img : List ℕ) (c : CarriedForC) where
  abbrev Carry : Answer (List Step) → Type 0
  Carry a =
      BegunSo (by_value c).begun (length img) s.granule a × RunsOf (by_value c).begun img (by_value c).runs

  item_refused : (n : ℕ) (why : Refusal) → 0 < n → c.number ≡ n → n ≡ number_of why
      → RunsAfter c.number c.begun img c.runs
      → Carry (refused why)
  unfolding BegunSo RunsOf by_value begun_by_value RunsAfter
  item_refused zero why positive number same none = absurd (omega (arith, positive))
  item_refused (suc n) why positive number same none =
      rw number ((numbered (suc n), refl, rw same (number_again why)), rw (rw number at none))

  item_started : (ss : List Step)
      → BegunAs c.number c.buffer c.begun (length img) s.granule (given ss)
      → RunsAfter c.number c.begun img c.runs
      → Carry (given ss)
  unfolding BegunSo RunsOf by_value begun_by_value RunsAfter
  item_started ss begun went =
      let (number, (holds, lists)) = lists_by_value c.number c.buffer c.begun (length img) s.granule ss begun in
      rw number ((job_from c.begun, refl, lists), runs_by_value c.runs c.begun img holds (rw number at went))

  pub item_by_value : CarriedOutForC s img c → CarriedOut s img (by_value c)
  unfolding CarriedOutForC BegunForC for_job unless CarriedOut by_value
  item_by_value (size, (begun, went)) =
      by_answer (start s img c.command) (start_not_zero s img c.command)
      (rw (eq-eqb (length c.buffer) job_size size) at begun)
    where
      by_answer : (a : Answer (List Step))
          → NotZero a
          → BegunAs c.number c.buffer c.begun (length img) s.granule a
          → Carry a
      by_answer (refused why) positive b = item_refused (number_of why) why positive (unfold BegunAs in b.0) refl went
      by_answer (given ss) positive b = item_started ss b went

pub items_by_value : (s : Setting) (cs : List CarriedForC) (img : List ℕ)
    → AllCarriedOutForC s img cs
    → AllCarriedOut s img (map by_value cs)
unfolding AllCarriedOutForC AllCarriedOut
items_by_value s [] img done = tt
items_by_value s (c ∷ cs) img (now, rest) =
    (item_by_value s img c now, items_by_value s cs (flash_left s img (by_value c)) rest)
