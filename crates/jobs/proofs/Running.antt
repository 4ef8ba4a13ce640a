-- A run, refusal by refusal, and what remains of a job. Assumes nothing.
use mathlib.Core.Path.{◌≡◌, refl, sym, ◌∙◌}
use mathlib.Core.Bool.{Bool, true, false, ◌&&◌, and-false}
use mathlib.Core.List.{List}
use Prim.Native.Nat.{ℕ, ◌-◌, ◌≤◌, ◌<◌, min}
use native.Mathlib.Omega.{arith}
use lib.Dec.{eqb, ltb}
use lib.ListN.{length, take, drop, length-take, length-drop}
use lib.Seq.{drop-drop}
use borrow.Author.Tests.{lt-ltb, le-ltb, eq-eqb, ne_eqb}
use Rattle.rules.specs.Lists.{all}
use Rattle.rules.specs.Answers.{Answer, refused, given, unless}
use Rattle.rules.specs.Steps.{steps}
use Rattle.rules.specs.Cuts.{Progress, run, inside, may_run}
use Rattle.rules.specs.declared.Refusal.{Refusal}
use Rattle.jobs.specs.Jobs.{listed, steps_of, under_way, admitted, steps_done, advanced, returned, ran, progress_after, RanBy, did_by_run, image_after_run, steps_left}
use Rattle.job_parts.specs.Inner.Parts.{listed_length}
use Rattle.jobs.specs.Inner.Countable.{Arrays}
use Rattle.jobs.specs.declared.Job.{Job}
use Rattle.part_steps.proofs.Splits.{drop_least}
use Rattle.job_parts.proofs.ListedSteps.{length-listed}
use Rattle.rules.specs.declared.Refusal.TheVariants.{NoStepsLeft, OutsideImage}

-- what a refused run says and leaves
pub stays : (j : Job) (budget : ℕ) (why : Refusal) (img : List ℕ) → admitted j img ≡ refused why
    → (refused why ≡ did_by_run j budget img) × (img ≡ image_after_run j budget img)
unfolding ran progress_after under_way
stays j budget why img h = (rw (did_by_run, h), rw (image_after_run, h))

-- a job further on denotes the steps that are left
pub steps_advanced : (j : Job) (n : ℕ) → steps_of (advanced j n) ≡ drop n (steps_of j)
unfolding steps_of
steps_advanced j n = sym (drop-drop n j.done (listed j.plan j.first j.second j.places j.value))

module _ (j : Job) (arrays : Arrays j) where
  pub length_steps : length (steps_of j) ≡ listed_length j.plan - j.done
  unfolding steps_of
  length_steps =
      rw (
        length-drop,
        length-listed j.plan j.first j.second j.places j.value arrays.first
            arrays.second,
      )

  pub finished_11 : (img : List ℕ) → listed_length j.plan ≤ j.done → admitted j img ≡ refused NoStepsLeft
  unfolding admitted may_run under_way unless
  finished_11 img h = rw (le-ltb 0 (length (steps_of j)) (rw length_steps (omega arith)))

  module _ (img : List ℕ) (some_left : j.done < listed_length j.plan) where
    left : ltb 0 (length (steps_of j)) ≡ true
    left = lt-ltb 0 (length (steps_of j)) (rw length_steps (omega arith))

    pub outside_12 : eqb (length img) j.plan.len && all (inside j.plan.granule (length img)) (steps_of j) ≡ false
        → admitted j img ≡ refused OutsideImage
    unfolding admitted may_run under_way unless
    outside_12 t = rw (left, t)

    -- another length, or a step outside
    pub other_length : (length img ≡ j.plan.len → ⊥) → admitted j img ≡ refused OutsideImage
    other_length h = outside_12 (rw (ne_eqb (length img) j.plan.len h))

    pub step_outside : length img ≡ j.plan.len → all (inside j.plan.granule (length img)) (steps_of j) ≡ false
        → admitted j img ≡ refused OutsideImage
    step_outside h t = outside_12 (rw (t, and-false (eqb (length img) j.plan.len)))

    pub inside_given : length img ≡ j.plan.len → all (inside j.plan.granule (length img)) (steps_of j) ≡ true
        → admitted j img ≡ given (under_way j img)
    unfolding admitted may_run under_way unless
    inside_given h t = rw (left, eq-eqb (length img) j.plan.len h, t)

  -- what a run that is not refused says and leaves
  pub goes : (img after : List ℕ) (budget n : ℕ)
      → admitted j img ≡ given (under_way j img)
      → n ≡ min budget (listed_length j.plan - j.done)
      → after ≡ steps j.plan.granule (take budget (steps_of j)) img
      → (given n ≡ did_by_run j budget img) × (after ≡ image_after_run j budget img)
  unfolding ran progress_after steps_done under_way run
  goes img after budget n h m e =
      let count : length (take budget (steps_of j)) ≡ n = length-take budget (steps_of j) ∙ rw length_steps (sym m) in
      (rw (did_by_run, h, count), rw (image_after_run, h, e))

  pub remain : (n : ℕ) → n ≡ listed_length j.plan - j.done → n ≡ steps_left j
  unfolding steps_left
  remain n e = e ∙ sym length_steps

-- ---- what a run returns, from what it says

module _ (j : Job) (img : List ℕ) where
  -- a run is refused, or it starts from the job on this image
  admitted_or_not : (P : Answer Progress → Type 0)
      → ((why : Refusal) → P (refused why))
      → P (given (under_way j img))
      → P (admitted j img)
  unfolding admitted may_run unless
  admitted_or_not P not_so so =
      tests (ltb 0 (length (under_way j img).left))
      (eqb (length (under_way j img).image) j.plan.len
      && all (inside j.plan.granule (length (under_way j img).image)) (under_way j img).left)
    where
      tests : (t u : Bool) → P (unless NoStepsLeft t (unless OutsideImage u (given (under_way j img))))
      tests false u = not_so NoStepsLeft
      tests true false = not_so OutsideImage
      tests true true = so

  pub run_returned : (budget : ℕ) (did : Answer ℕ) (after : List ℕ)
      → did ≡ did_by_run j budget img
      → after ≡ image_after_run j budget img
      → RanBy j budget img (returned j did) after
  unfolding RanBy ran progress_after under_way run steps_done
  run_returned budget did after d e =
      rw (d, e)
      (admitted_or_not
      (λ (answer : Answer Progress).
      (returned j (ran j budget answer).did ≡ ran j budget answer)
      × (under_way (returned j (ran j budget answer).did).job (progress_after j budget img answer).image
      ≡ progress_after j budget img answer))
      (λ why. (refl, refl))
      (refl, rw (steps_advanced j (length (take budget (steps_of j))), length-take budget (steps_of j), drop_least budget (steps_of j))))
