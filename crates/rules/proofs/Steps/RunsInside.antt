-- Steps that reach nothing outside the image: runs of them are never refused 12, and a run refused 11 had nothing to
-- do. Assumes nothing.
use mathlib.Core.Path.{◌≡◌, refl, sym, ap, ◌∙◌, subst}
use mathlib.Core.Bool.{true}
use mathlib.Core.List.{List, [], ◌∷◌}
use Prim.Native.Nat.{ℕ, zero, suc, ◌+◌, ◌<◌}
use native.Mathlib.Omega.{arith}
use lib.Dec.{ltb}
use borrow.Author.Tests.{lt-ltb, le-leb, eq-eqb}
use lib.ListN.{length, take, drop}
use Rattle.rules.specs.Lists.{all}
use Rattle.rules.specs.Answers.{Answer, refused, given, unless}
use Rattle.rules.specs.declared.Step.{Step}
use Rattle.rules.specs.declared.Step.TheVariants.{Program, Erase}
use Rattle.rules.specs.Steps.{steps}
use Rattle.rules.specs.Cuts.{Progress, run, inside, may_run, runs}
use Rattle.rules.proofs.Steps.Cutting.{cut_all}
use Rattle.rules.proofs.Steps.Frame.{StepsWithin, cut_only}
use Rattle.rules.specs.declared.Refusal.TheVariants.{NoStepsLeft}

-- ---- a run as its caller meets it

-- refused, it changes nothing; given, it is run
abbrev answered : ℕ → ℕ → Progress → Answer Progress → Progress
answered g budget p (refused n) = p
answered g budget p (given q) = run g budget q

abbrev pub asked_run : ℕ → ℕ → ℕ → Progress → Progress
asked_run g len budget p = answered g budget p (may_run g len p)

-- one after the other
abbrev pub asked_runs : ℕ → ℕ → List ℕ → Progress → Progress
asked_runs g len [] p = p
asked_runs g len (n ∷ ns) p = asked_runs g len ns (asked_run g len n p)

-- ---- inside

-- the image is still as long as at the start, and the steps left reach nothing outside it
pub record Inside (g len : ℕ) (p : Progress) : Type 0 where
  pub same_length : length p.image ≡ len
  pub within : StepsWithin g len (λ i. i < len) p.left

all-inside : (g len : ℕ) (ss : List Step) → StepsWithin g len (λ i. i < len) ss → all (inside g len) ss ≡ true
unfolding all inside
all-inside g len [] h = refl
all-inside g len (Program a v ∷ ss) h = rw (lt-ltb a len h.0) (all-inside g len ss h.1)
all-inside g len (Erase a ∷ ss) h = rw (le-leb (a + g) len h.0.0) (all-inside g len ss h.1)

within_take : (g len n : ℕ) (P : ℕ → Type 0) (ss : List Step) → StepsWithin g len P ss → StepsWithin g len P (take n ss)
within_take g len zero P ss h = tt
within_take g len (suc n) P [] h = tt
within_take g len (suc n) P (s ∷ ss) h = (h.0, within_take g len n P ss h.1)

within_drop : (g len n : ℕ) (P : ℕ → Type 0) (ss : List Step) → StepsWithin g len P ss → StepsWithin g len P (drop n ss)
within_drop g len zero P ss h = h
within_drop g len (suc n) P [] h = tt
within_drop g len (suc n) P (s ∷ ss) h = within_drop g len n P ss h.1

-- ---- what is asked

module _ (g len : ℕ) where
  run_inside : (n : ℕ) (p : Progress) → Inside g len p → Inside g len (run g n p)
  unfolding run
  run_inside n p h =
      let done : List Step = take n p.left in
      let fits = within_take g len n (λ i. i < len) p.left h.within in
      let o = cut_only g (λ i. i < len) done p.image (steps g done p.image)
      (subst (λ (m : ℕ). StepsWithin g m (λ i. i < len) done) (sym h.same_length) fits)
      (cut_all g done p.image) in
      record {
        same_length = o.same_length ∙ h.same_length;
        within = within_drop g len n (λ i. i < len) p.left h.within;
      }

  runs_inside : (ns : List ℕ) (p : Progress) → Inside g len p → Inside g len (runs g ns p)
  unfolding runs
  runs_inside [] p h = h
  runs_inside (n ∷ ns) p h = runs_inside ns (run g n p) (run_inside n p h)

  -- only refusal 11 is given
  pub only_refused_11 : (p : Progress)
      → Inside g len p
      → may_run g len p ≡ unless NoStepsLeft (ltb 0 (length p.left)) (given p)
  unfolding may_run
  only_refused_11 p h =
      rw (h.same_length, eq-eqb len len refl, all-inside g len p.left h.within) (unfold unless in refl)

  run_of_none : (n : ℕ) (img : List ℕ) → run g n (record { image = img; left = [] }) ≡ record { image = img; left = [] }
  unfolding run steps
  run_of_none zero img = refl
  run_of_none (suc n) img = refl

  asked_run_is_run : (n : ℕ) (p : Progress) → Inside g len p → asked_run g len n p ≡ run g n p
  asked_run_is_run n p h = ap (answered g n p) (only_refused_11 p h) ∙ split p.left refl
    where
      split : (l : List Step)
          → p.left ≡ l
          → answered g n p (unless NoStepsLeft (ltb 0 (length p.left)) (given p)) ≡ run g n p
      split [] e = rw e (unfold unless in sym (run_of_none n p.image))
      split (s ∷ l) e = rw (e, lt-ltb 0 (suc (length l)) (omega arith)) (unfold unless in refl)

  pub asked_runs_are_runs : (ns : List ℕ) (p : Progress) → Inside g len p → asked_runs g len ns p ≡ runs g ns p
  unfolding runs
  asked_runs_are_runs [] p h = refl
  asked_runs_are_runs (n ∷ ns) p h =
      ap (asked_runs g len ns) (asked_run_is_run n p h) ∙ asked_runs_are_runs ns (run g n p) (run_inside n p h)

  pub refused_11_along : (ns : List ℕ) (p : Progress)
      → Inside g len p
      → may_run g len (runs g ns p) ≡ unless NoStepsLeft (ltb 0 (length (runs g ns p).left)) (given (runs g ns p))
  refused_11_along ns p h = only_refused_11 (runs g ns p) (runs_inside ns p h)
