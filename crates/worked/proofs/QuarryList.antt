-- Demand 3 applied to one list on the quarry image: two refusals, a cut, a repair and a further command. `quarry_list` is the
-- claim for it, `quarry_outcomes` shows by computation that the list has all three outcomes. Assumes nothing.
use mathlib.Core.Path.{◌≡◌, refl, sym, ap, ◌∙◌, subst}
use mathlib.Core.Bool.{true}
use mathlib.Core.List.{List, [], ◌∷◌}
use Prim.Native.Nat.{ℕ, zero, suc, ◌+◌}
use native.Mathlib.Nat.{zero-add, suc-add}
use lib.Dec.{ltb}
use lib.ListN.{take, drop}
use lib.Seq.{drop-drop, take-nil}
use Rattle.rules.specs.Lists.{all}
use Rattle.rules.specs.Answers.{Answer, refused, given}
use Rattle.rules.specs.declared.Setting.{Setting}
use Rattle.rules.specs.Copies.{pairs_agree}
use Rattle.rules.specs.Steps.{step, steps}
use Rattle.rules.specs.Commands.{Command, enable, disable, repair, start}
use Rattle.rules.specs.Cuts.{run, runs, half_done, dropped}
use Rattle.rules.specs.Book.{the_commands, Item, Outcome, was_refused, finished, cut, how_ended, progress, left_by, flash_after, ended_by, outcome, AllProper, NameBytes, Demand3}
use Rattle.quarry.specs.Quarry.{quarry_setting, quarry_p3}
use Rattle.rules.specs.declared.Step.{Step}
use Rattle.rules.proofs.Lists.ByteLists.{bytes_by_test}
use Rattle.quarry.proofs.Opened.{rules}
use Rattle.rules.proofs.Steps.Programming.{fast_steps, fast_is_steps}
use Rattle.rules.proofs.Steps.Cutting.{under_way}
use Rattle.rules.proofs.Claim.Theorem.{demand_3}

-- ---- the list

abbrev item : Command → List ℕ → Item the_commands
item c budgets = record { command = c; budgets = budgets; wiped = [] }

-- enable 1 is refused 14, though slot 1 is first already; disable 2 is refused 8; enable 2 is cut after 15 steps; repair
-- finishes in two runs, and a third is refused 11; enable 2 finishes under budgets 0 and 16
abbrev pub a_list : List (Item the_commands)
a_list =
    item (enable 1) []
    ∷ item (disable 2) []
    ∷ item (enable 2) (7 ∷ 8 ∷ [])
    ∷ item repair (4000 ∷ 101 ∷ 5 ∷ [])
    ∷ item (enable 2) (0 ∷ 16 ∷ [])
    ∷ []

-- the flash that it starts from: P3 alone is not empty
abbrev pub a_flash : List ℕ
a_flash = quarry_p3 (0 ∷ [])

-- ---- the claim for it

quarry_bytes : all (λ b. ltb b 256) a_flash ≡ true
unfolding rules
quarry_bytes = refl

quarry_agrees : pairs_agree quarry_setting a_flash ≡ true
unfolding rules
quarry_agrees = refl

pub quarry_list : Demand3 quarry_setting a_flash a_list
quarry_list = demand_3 quarry_setting a_flash (bytes_by_test a_flash quarry_bytes) quarry_agrees a_list no_names
  where
    no_names : AllProper a_list
    no_names = unfold AllProper NameBytes in (tt, (tt, (tt, (tt, (tt, tt)))))

-- ---- its outcomes: runs under several budgets are one run under their sum

abbrev total : List ℕ → ℕ
total [] = 0
total (n ∷ ns) = n + total ns

steps_then : (g n m : ℕ) (ss : List Step) (img : List ℕ)
    → steps g (take m (drop n ss)) (steps g (take n ss) img) ≡ steps g (take (n + m) ss) img
unfolding steps
steps_then g zero m ss img = rw zero-add
steps_then g (suc n) m [] img = rw (take-nil m, suc-add n m)
steps_then g (suc n) m (s ∷ ss) img = rw (suc-add n m) (steps_then g n m ss (step g s img))

at_once : (g : ℕ) (ns : List ℕ) (ss : List Step) (img : List ℕ)
    → runs g ns (under_way img ss) ≡ under_way (steps g (take (total ns) ss) img) (drop (total ns) ss)
unfolding runs run
at_once g [] ss img = unfold steps in refl
at_once g (n ∷ ns) ss img =
    at_once g ns (drop n ss) (steps g (take n ss) img)
    ∙ rw (steps_then g n (total ns) ss img, drop-drop (total ns) n ss)

-- the outcomes of a list, with steps carried out by this function
module _ (CarriedOut : ℕ → List Step → List ℕ → List ℕ) (s : Setting) where
  abbrev left_at_once : Item the_commands → List ℕ → Answer (List Step) → List ℕ
  left_at_once i img (refused n) = img
  left_at_once i img (given ss) =
      half_done s.granule i.wiped (drop (total i.budgets) ss)
      (CarriedOut s.granule (take (total i.budgets) ss) img)

  abbrev ended_at_once : Item the_commands → Answer (List Step) → Outcome
  ended_at_once i (refused n) = was_refused
  ended_at_once i (given ss) = how_ended (drop (total i.budgets) ss)

  abbrev pub outcomes_at_once : List ℕ → List (Item the_commands) → List Outcome
  outcomes_at_once img [] = []
  outcomes_at_once img (i ∷ is) =
      ended_at_once i (start s img i.command) ∷ outcomes_at_once (left_at_once i img (start s img i.command)) is

abbrev pub outcomes : Setting → List ℕ → List (Item the_commands) → List Outcome
outcomes s img [] = []
outcomes s img (i ∷ is) = outcome s img i ∷ outcomes s (flash_after s img i) is

module _ (s : Setting) where
  left_same : (i : Item the_commands) (img : List ℕ) (a : Answer (List Step)) → left_at_once steps s i img a ≡ left_by s.granule i img a
  unfolding left_by progress dropped
  left_same i img (refused n) = refl
  left_same i img (given ss) = rw (at_once s.granule i.budgets ss img)

  ended_same : (i : Item the_commands) (img : List ℕ) (a : Answer (List Step)) → ended_at_once steps s i a ≡ ended_by s.granule i img a
  unfolding ended_by progress
  ended_same i img (refused n) = refl
  ended_same i img (given ss) = rw (at_once s.granule i.budgets ss img)

  outcomes_same : (is : List (Item the_commands)) (img : List ℕ) → outcomes_at_once steps s img is ≡ outcomes s img is
  unfolding flash_after outcome
  outcomes_same [] img = refl
  outcomes_same (i ∷ is) img =
      rw (left_same i img (start s img i.command), ended_same i img (start s img i.command))
      (ap (λ (l : List Outcome). ended_by s.granule i img (start s img i.command) ∷ l) (outcomes_same is (flash_after s img i)))

quick_outcomes : outcomes_at_once fast_steps quarry_setting a_flash a_list ≡ was_refused ∷ was_refused ∷ cut ∷ finished ∷ finished ∷ []
unfolding rules
quick_outcomes = refl

pub quarry_outcomes : outcomes quarry_setting a_flash a_list ≡ was_refused ∷ was_refused ∷ cut ∷ finished ∷ finished ∷ []
quarry_outcomes =
    sym (outcomes_same quarry_setting a_list a_flash)
    ∙ subst (λ (f : ℕ → List Step → List ℕ → List ℕ). outcomes_at_once f quarry_setting a_flash a_list ≡ was_refused ∷ was_refused ∷ cut ∷ finished ∷ finished ∷ [])
    fast_is_steps quick_outcomes
