-- The images at which a list of steps can be cut, and that what an item leaves is one of them. Assumes nothing.
use mathlib.Core.Path.{◌≡◌, refl, ◌∙◌}
use mathlib.Core.Bool.{Bool}
use mathlib.Core.Logic.{◌⊎◌, inl, inr}
use mathlib.Core.List.{List, [], ◌∷◌, ◌++◌}
use Prim.Native.Nat.{ℕ, zero, suc}
use native.Mathlib.Omega.{arith}
use lib.ListN.{take, drop, length-take}
use Rattle.rules.specs.declared.Step.{Step}
use Rattle.rules.specs.declared.Step.TheVariants.{Program, Erase}
use Rattle.rules.specs.Steps.{step, steps}
use Rattle.rules.specs.Cuts.{Progress, run, runs, half_done, dropped}
use Rattle.rules.specs.Book.{Outcome, finished, cut, how_ended}
use Rattle.rules.proofs.Steps.Wiping.{HalfErased, half_erased}

-- what a cut inside one step leaves
abbrev pub Partly : ℕ → Step → List ℕ → List ℕ → Type 0
Partly g (Program a v) img img' = ⊥
Partly g (Erase a) img img' = HalfErased a g img img'

-- what a cut of the steps leaves; all of them done is one of the ways
abbrev pub Cut : ℕ → List Step → List ℕ → List ℕ → Type 0
Cut g [] img img' = img' ≡ img
Cut g (s ∷ ss) img img' = (img' ≡ img) ⊎ (Partly g s img img' ⊎ Cut g ss (step g s img) img')

pub cut_none : (g : ℕ) (ss : List Step) (img : List ℕ) → Cut g ss img img
cut_none g [] img = refl
cut_none g (s ∷ ss) img = inl refl

pub cut_all : (g : ℕ) (ss : List Step) (img : List ℕ) → Cut g ss img (steps g ss img)
unfolding steps
cut_all g [] img = refl
cut_all g (s ∷ ss) img = inr (inr (cut_all g ss (step g s img)))

pub cut_append : (g : ℕ) (ss ts : List Step) (img img' : List ℕ)
    → Cut g (ss ++ ts) img img'
    → Cut g ss img img' ⊎ Cut g ts (steps g ss img) img'
unfolding steps
cut_append g [] ts img img' c = inr c
cut_append g (s ∷ ss) ts img img' (inl e) = inl (inl e)
cut_append g (s ∷ ss) ts img img' (inr (inl p)) = inl (inr (inl p))
cut_append g (s ∷ ss) ts img img' (inr (inr c)) = deeper (cut_append g ss ts (step g s img) img' c)
  where
    deeper : Cut g ss (step g s img) img' ⊎ Cut g ts (steps g ss (step g s img)) img'
        → Cut g (s ∷ ss) img img' ⊎ Cut g ts (steps g ss (step g s img)) img'
    deeper (inl d) = inl (inr (inr d))
    deeper (inr d) = inr d

-- ---- runs with budgets, then dropped

-- a job under way
abbrev pub under_way : List ℕ → List Step → Progress
under_way img ss = record { image = img; left = ss }

cut_half_done : (g : ℕ) (ws : List Bool) (ss : List Step) (img : List ℕ) → Cut g ss img (half_done g ws ss img)
unfolding half_done
cut_half_done g ws [] img = refl
cut_half_done g ws (Program a v ∷ ss) img = inl refl
cut_half_done g ws (Erase a ∷ ss) img = inr (inl (half_erased a g (take g ws) img (simp length-take (omega arith))))

cut_after : (g n : ℕ) (ss : List Step) (img img' : List ℕ)
    → Cut g (drop n ss) (steps g (take n ss) img) img'
    → Cut g ss img img'
unfolding steps
cut_after g zero ss img img' c = c
cut_after g (suc n) [] img img' c = c
cut_after g (suc n) (s ∷ ss) img img' c = inr (inr (cut_after g n ss (step g s img) img' c))

pub cut_dropped : (g : ℕ) (ws : List Bool) (ns : List ℕ) (ss : List Step) (img : List ℕ)
    → Cut g ss img (dropped g ws (runs g ns (under_way img ss)))
unfolding dropped runs run
cut_dropped g ws [] ss img = cut_half_done g ws ss img
cut_dropped g ws (n ∷ ns) ss img =
    cut_after g n ss img (dropped g ws (runs g ns (under_way (steps g (take n ss) img) (drop n ss))))
    (cut_dropped g ws ns (drop n ss) (steps g (take n ss) img))

-- ---- finished: all the steps were done

steps_in_two : (g n : ℕ) (ss : List Step) (img : List ℕ)
    → steps g (drop n ss) (steps g (take n ss) img) ≡ steps g ss img
unfolding steps
steps_in_two g zero ss img = refl
steps_in_two g (suc n) [] img = refl
steps_in_two g (suc n) (s ∷ ss) img = steps_in_two g n ss (step g s img)

steps_of_rest : (g : ℕ) (ns : List ℕ) (ss : List Step) (img : List ℕ)
    → steps g (runs g ns (under_way img ss)).left (runs g ns (under_way img ss)).image ≡ steps g ss img
unfolding runs run
steps_of_rest g [] ss img = refl
steps_of_rest g (n ∷ ns) ss img = steps_of_rest g ns (drop n ss) (steps g (take n ss) img) ∙ steps_in_two g n ss img

pub dropped-finished : (g : ℕ) (ws : List Bool) (ns : List ℕ) (ss : List Step) (img : List ℕ)
    → how_ended (runs g ns (under_way img ss)).left ≡ finished
    → dropped g ws (runs g ns (under_way img ss)) ≡ steps g ss img
dropped-finished g ws ns ss img h =
    none_left (runs g ns (under_way img ss)).left (runs g ns (under_way img ss)).image h ∙ steps_of_rest g ns ss img
  where
    cut_finished : ◌≡◌ {A = Outcome} cut finished → ⊥
    cut_finished e = let z : ◌≡◌ {A = ℕ} 0 1 = cc in omega arith

    none_left : (l : List Step) (x : List ℕ) → how_ended l ≡ finished → dropped g ws (under_way x l) ≡ steps g l x
    none_left [] x h = unfold dropped half_done steps in refl
    none_left (s ∷ l) x h = absurd (cut_finished (unfold how_ended in h))
