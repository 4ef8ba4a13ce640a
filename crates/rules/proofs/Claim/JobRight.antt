-- What one command's job must do to the flash: it touches the four granules alone, at every cut its change is made or
-- not, and at the end it is. Assumes nothing.
use mathlib.Core.Path.{◌≡◌, sym, subst}
use mathlib.Core.Bool.{Bool, true, false, cond}
use mathlib.Core.Logic.{◌⊎◌, inl, inr}
use mathlib.Core.List.{List, []}
use Prim.Native.Nat.{ℕ}
use lib.ListN.{length}
use Rattle.rules.specs.Steps.{steps}
use Rattle.rules.specs.Copies.{pairs_agree}
use Rattle.rules.specs.Commands.{Command}
use Rattle.rules.specs.Book.{Reading, changed}
use Rattle.rules.specs.declared.Step.{Step}
use Rattle.rules.proofs.Steps.Cutting.{Cut}
use Rattle.rules.proofs.Steps.Frame.{StepsWithin}
use Rattle.rules.proofs.Claim.Invariant.{Beginning, FourGranules, Invariant, BothEqual, both_equal_agree}

module _ (beginning : Beginning) where
  open beginning use {s}

  -- the reading r is to become r'
  pub record Leads (img : List ℕ) (r r' : Reading) (ss : List Step) : Type 0 where
    pub within : StepsWithin s.granule (length img) (FourGranules beginning) ss
    pub at_cut : (img' : List ℕ)
        → Cut s.granule ss img img'
        → (choice : Bool) × Invariant beginning img' (cond choice r' r)
    pub at_end : Invariant beginning (steps s.granule ss img) r'
    pub agrees : pairs_agree s (steps s.granule ss img) ≡ true

  -- by a command's change
  abbrev pub JobRight : List ℕ → Reading → Command → List Step → Type 0
  JobRight img r c ss = Leads img r (changed s img c r) ss

  module _ (img : List ℕ) (r : Reading) where
    pub job_right : (ss : List Step) (r' : Reading)
        → StepsWithin s.granule (length img) (FourGranules beginning) ss
        → ((img' : List ℕ) → Cut s.granule ss img img' → Invariant beginning img' r ⊎ Invariant beginning img' r')
        → Invariant beginning (steps s.granule ss img) r'
        → BothEqual beginning (steps s.granule ss img)
        → Leads img r r' ss
    job_right ss r' within cuts end equal = record {
      within = within;
      at_cut = λ img' d. choose img' (cuts img' d);
      at_end = end;
      agrees = both_equal_agree beginning (steps s.granule ss img) r' end equal;
    }
      where
        choose : (img' : List ℕ)
            → Invariant beginning img' r ⊎ Invariant beginning img' r'
            → (choice : Bool) × Invariant beginning img' (cond choice r' r)
        choose img' (inl h) = (false, h)
        choose img' (inr h) = (true, h)

    -- a job of no steps for a change that is none
    pub no_steps_right : Invariant beginning img r → BothEqual beginning img → Leads img r r []
    unfolding steps
    no_steps_right h equal =
        job_right [] r tt (λ img' d. inl (subst (λ (x : List ℕ). Invariant beginning x r) (sym d) h)) h equal
