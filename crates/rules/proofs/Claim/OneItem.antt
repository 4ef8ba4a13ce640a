-- The law of one item: where the invariant holds there is a choice with which it holds after the item, by the book's
-- reading; and after a finished item both pairs agree. It holds of any set of commands whose jobs are right. Assumes
-- nothing.
use mathlib.Core.Path.{◌≡◌, refl, ap}
use mathlib.Core.Bool.{Bool, true, false}
use mathlib.Core.List.{List, [], ◌∷◌}
use Prim.Native.Nat.{ℕ}
use Rattle.rules.specs.Answers.{Answer, refused, given}
use Rattle.rules.specs.Cuts.{dropped}
use Rattle.rules.specs.Book.{Reading, CommandSet, Item, finished, cut, how_ended, progress, left_by, flash_after, ended_by, outcome, booked, AgreeIfFinished}
use Rattle.rules.specs.declared.Refusal.{Refusal}
use Rattle.rules.specs.declared.Step.{Step}
use Rattle.rules.proofs.Steps.Cutting.{cut_dropped, dropped-finished}
use Rattle.rules.proofs.Claim.Invariant.{Beginning, Invariant}
use Rattle.rules.proofs.Claim.JobRight.{Leads}

-- every job of the set leads to the change that its command stands for
abbrev pub AllRight : CommandSet → Type 0
AllRight C = (beginning : Beginning) (img : List ℕ) (r : Reading)
    → Invariant beginning img r
    → (c : C.Command) (ss : List Step)
    → C.proper c
    → C.start beginning.s img c ≡ given ss
    → Leads beginning img r (C.changed beginning.s img c r) ss

module _ (C : CommandSet) (all_right : AllRight C) (beginning : Beginning) where
  open beginning use {s}

  -- by the book's reading the invariant holds after the item, and a finished item leaves pairs that agree
  pub record ItemRight (img : List ℕ) (r : Reading) (i : Item C) (choice : Bool) : Type 0 where
    pub holds : Invariant beginning (flash_after s img i) (booked C s img i.command (outcome s img i) choice r)
    pub agrees : AgreeIfFinished s (flash_after s img i) (outcome s img i)

  pub one_item : (img : List ℕ) (r : Reading)
      → Invariant beginning img r
      → (i : Item C)
      → C.proper i.command
      → (choice : Bool) × ItemRight img r i choice
  unfolding flash_after outcome left_by ended_by booked AgreeIfFinished how_ended progress
  one_item img r h i proper =
      answered (C.start s img i.command) refl
      (λ ss e. all_right beginning img r h i.command ss proper e)
    where
      left : List Step → List Step
      left ss = (progress s.granule i img ss).left

      when_refused : (why : Refusal) → C.start s img i.command ≡ refused why → (choice : Bool) × ItemRight img r i choice
      when_refused why e = (false, record { holds = rw e h; agrees = rw e tt })

      when_finished : (ss : List Step)
          → C.start s img i.command ≡ given ss
          → Leads beginning img r (C.changed s img i.command r) ss
          → how_ended (left ss) ≡ finished
          → (choice : Bool) × ItemRight img r i choice
      when_finished ss e right t =
          let all_done = dropped-finished s.granule i.wiped i.budgets ss img t in
          (true, record { holds = rw (e, t, all_done) right.at_end; agrees = rw (e, t, all_done) right.agrees })

      when_cut : (ss : List Step)
          → C.start s img i.command ≡ given ss
          → Leads beginning img r (C.changed s img i.command r) ss
          → how_ended (left ss) ≡ cut
          → (choice : Bool) × ItemRight img r i choice
      when_cut ss e right t =
          let (choice, w) = right.at_cut (dropped s.granule i.wiped (progress s.granule i img ss))
          (cut_dropped s.granule i.wiped i.budgets ss img) in
          (choice, record { holds = rw (e, t) w; agrees = rw (e, t) tt })

      ended : (ss : List Step)
          → C.start s img i.command ≡ given ss
          → Leads beginning img r (C.changed s img i.command r) ss
          → (l : List Step)
          → left ss ≡ l
          → (choice : Bool) × ItemRight img r i choice
      ended ss e right [] q = when_finished ss e right (ap how_ended q)
      ended ss e right (x ∷ l) q = when_cut ss e right (ap how_ended q)

      answered : (a : Answer (List Step))
          → C.start s img i.command ≡ a
          → ((ss : List Step) → a ≡ given ss → Leads beginning img r (C.changed s img i.command r) ss)
          → (choice : Bool) × ItemRight img r i choice
      answered (refused why) e right = when_refused why e
      answered (given ss) e right = ended ss e (right ss refl) (left ss) refl
