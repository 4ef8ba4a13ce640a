-- From the contracts of a start and of two runs to an item carried out, and so to demand 3. Assumes nothing.
use mathlib.Core.Path.{◌≡◌, refl}
use mathlib.Core.List.{List, [], ◌∷◌}
use Prim.Native.Nat.{ℕ}
use Rattle.rules.specs.Bytes.{Bytes}
use Rattle.rules.specs.Answers.{Answer, refused, given}
use Rattle.rules.specs.declared.Refusal.{Refusal}
use Rattle.rules.specs.declared.Setting.{Setting}
use Rattle.rules.specs.Commands.{Command}
use Rattle.rules.specs.Book.{NameBytes, AllProper}
use Rattle.jobs.specs.Jobs.{after_call}
use Rattle.jobs.specs.declared.Job.{Job}
use Rattle.commands.specs.Begins.{start_answer}
use Rattle.commands.proofs.StartLists.{start_lists}
use Rattle.joined.specs.Items.{Carried, RunsOf, CarriedOut, item_of, AllCarriedOut}
use Rattle.joined.proofs.Items.{begins_so}
use Rattle.joined.proofs.Theorem.{demand_3_of_code}
use Rattle.carried.specs.Carrying.{RanTwice, AsAsked, CarriedTwice}

as_carried : (s : Setting) (img : List ℕ) (c : Carried)
    → Bytes img
    → NameBytes c.command
    → CarriedOut s img c
    → AsAsked s img c
unfolding AsAsked AllCarriedOut item_of AllProper
as_carried s img c bytes names done =
    (done, λ agree. demand_3_of_code s img bytes agree (c ∷ []) (names, tt) (done, tt))

module _ (s : Setting) (command : Command) (img : List ℕ) (bytes : Bytes img) (names : NameBytes command)
    (first second : ℕ) where
  pub carried_refused : (why : Refusal)
      → refused why ≡ start_answer s img command
      → CarriedTwice s command img first second (refused why) img
  unfolding CarriedTwice CarriedOut RunsOf
  carried_refused why e = (
    refl,
    λ wiped. as_carried s img _ bytes names (begins_so (refused why) _ _ _ (rw e (start_lists s img command)), refl),
  )

  pub carried_by : (j j' : Job) (did : Answer ℕ) (img' : List ℕ)
      → given j ≡ start_answer s img command
      → RanTwice j img first second (after_call j' did) img'
      → CarriedTwice s command img first second (given (j', did)) img'
  unfolding RanTwice CarriedTwice CarriedOut RunsOf
  carried_by j j' did img' e (one, budget, went) = (
    j,
    (one, budget, (λ wiped. as_carried s img _ bytes names (begins_so (given j) _ _ _ (rw e (start_lists s img command)), went))),
  )
