-- A start that is run to its end does all its listed steps: it is never refused 12. Assumes nothing.
use mathlib.Core.Path.{◌≡◌, refl, ap, ◌∙◌}
use mathlib.Core.List.{List, [], ◌∷◌}
use Prim.Native.Nat.{ℕ, zero, suc}
use native.Mathlib.Omega.{arith}
use borrow.Author.Tests.{lt-ltb}
use lib.Dec.{ltb}
use lib.ListN.{length}
use lib.Seq.{take-length}
use Rattle.rules.specs.Lists.{all}
use Rattle.rules.specs.Bytes.{Bytes}
use Rattle.rules.specs.Answers.{Answer, refused, given, unless}
use Rattle.rules.specs.declared.Setting.{Setting}
use Rattle.rules.specs.Commands.{Command, start}
use Rattle.rules.specs.Steps.{steps}
use Rattle.rules.specs.Cuts.{Progress, run, runs}
use Rattle.rules.specs.Book.{NameBytes}
use Rattle.rules.specs.declared.Step.{Step}
use Rattle.rules.proofs.Lists.ByteLists.{bytes_by_test}
use Rattle.rules.proofs.Claim.Bridge.{never_refused_12}
use Rattle.jobs.specs.Jobs.{Ran, under_way, admitted, steps_done, ran, progress_after, steps_left}
use Rattle.jobs.specs.declared.Job.{Job}
use Rattle.blocks.specs.Made.{Lists}
use Rattle.commands.specs.Begins.{command_of, Begins}
use Rattle.commands.specs.declared.Command.{Command as Asked}
use Rattle.commands.proofs.NameLent.{bytes_lent}
use Rattle.book_entries.specs.Tables.{new_name}
use Rattle.harness.specs.Finished.{finished, left_finished, done_by, left_by, done_begun, left_begun}
use Rattle.rules.specs.declared.Refusal.TheVariants.{NoStepsLeft}

-- ---- the name is of bytes

name_of_bytes : Bytes new_name
unfolding all
name_of_bytes = bytes_by_test new_name refl

pub names_of_bytes : (c : Asked) → NameBytes (command_of c new_name)
names_of_bytes c = bytes_lent c new_name name_of_bytes

-- ---- what the code does with a run and with a start

-- a run of as many steps as remain, and not none
pub ran_all : (n : ℕ) (j : Job) (img after : List ℕ) (r : Ran)
    → (r ≡ ran j n (admitted j img)) × (under_way r.job after ≡ progress_after j n img (admitted j img))
    → (n ≡ 0 → ⊥)
    → (r.did ≡ done_by n j img) × (after ≡ left_by n j img)
ran_all zero j img after r m some = absurd (some refl)
ran_all (suc n) j img after r (m, p) some = (
  unfold done_by in ap (λ (x : Ran). x.did) m,
  unfold left_by under_way in ap (λ (x : Progress). x.image) p,
)

-- ---- all steps of a job

module _ (g : ℕ) (img : List ℕ) (j : Job) (s : Step) (l : List Step) (lists : Lists j (length img) g (s ∷ l))
    (may : admitted j img ≡ given (under_way j img)) where
  all_told : done_by (suc (length l)) j img ≡ finished (given (s ∷ l))
  unfolding done_by ran steps_done under_way finished
  all_told =
      ap (λ (x : Answer Progress). (ran j (suc (length l)) x).did) may ∙ rw (lists.steps, take-length l)

  all_left : left_by (suc (length l)) j img ≡ steps g (s ∷ l) img
  unfolding left_by progress_after run under_way
  all_left =
      ap (λ (x : Answer Progress). (progress_after j (suc (length l)) img x).image) may
      ∙ rw (lists.steps, lists.same_granule, take-length l)

pub all_steps : (g : ℕ) (img : List ℕ) (j : Job) (ss : List Step)
    → Lists j (length img) g ss
    → admitted j img ≡ unless NoStepsLeft (ltb 0 (length ss)) (given (under_way j img))
    → (done_by (steps_left j) j img ≡ finished (given ss)) × (left_by (steps_left j) j img ≡ steps g ss img)
unfolding steps_left finished done_by left_by steps unless
all_steps g img j [] lists may = rw lists.steps (refl, refl)
all_steps g img j (s ∷ l) lists may =
    let runs : admitted j img ≡ given (under_way j img) = may ∙ rw (lt-ltb 0 (suc (length l)) (omega arith)) in
    rw lists.steps (all_told g img j s l lists runs, all_left g img j s l lists runs)

-- ---- a command

module _ (s : Setting) (img : List ℕ) (c : Command) (b : Answer Job) (bytes : Bytes img) (names : NameBytes c)
    (begun : Begins b (length img) s.granule (start s img c)) where
  pub finishes : (done_begun b img ≡ finished (start s img c))
      × (left_begun b img ≡ left_finished s.granule img (start s img c))
  finishes = by_answer (start s img c) refl begun
    where
      by_answer : (a : Answer (List Step)) → start s img c ≡ a → Begins b (length img) s.granule a
          → (done_begun b img ≡ finished a) × (left_begun b img ≡ left_finished s.granule img a)
      by_answer (refused why) e h = unfold Begins done_begun left_begun finished left_finished in (rw h, rw h)
      by_answer (given ss) e h =
          unfold Begins done_begun left_begun left_finished in
          (let (j, is, lists) = h in
          let may : admitted j img ≡ unless NoStepsLeft (ltb 0 (length ss)) (given (under_way j img)) =
          unfold admitted under_way runs in
          rw (lists.steps, lists.same_len, lists.same_granule) (never_refused_12 s img c ss bytes names e []) in
          rw is (all_steps s.granule img j ss lists may))
