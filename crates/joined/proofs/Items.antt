-- An item carried out by the code leaves the flash that the book's item leaves, and ends as it does. Assumes nothing.
use mathlib.Core.Path.{◌≡◌, refl, ap}
use mathlib.Core.List.{List}
use Prim.Native.Nat.{ℕ}
use lib.ListN.{length}
use Rattle.rules.specs.Bytes.{Bytes}
use Rattle.rules.specs.Answers.{Answer, refused, given}
use Rattle.rules.specs.declared.Refusal.{Refusal}
use Rattle.rules.specs.declared.Setting.{Setting}
use Rattle.rules.specs.Copies.{view}
use Rattle.rules.specs.Commands.{start}
use Rattle.rules.specs.Cuts.{Progress, half_done, dropped}
use Rattle.rules.specs.Book.{the_commands, Reading, Item, how_ended, read_by, reading, progress, left_by, flash_after, ended_by, outcome, NameBytes}
use Rattle.rules.specs.declared.Step.{Step}
use Rattle.rules.proofs.Lists.Tests.{bind_given}
use Rattle.rules.proofs.Claim.Bridge.{never_refused_12}
use Rattle.rules.proofs.Claim.Viewing.{viewed, beginning, holds_at_first}
use Rattle.rules.proofs.Claim.OneItem.{one_item}
use Rattle.rules.proofs.Claim.EveryJob.{the_commands_right}
use Rattle.blocks.specs.Made.{Lists}
use Rattle.commands.specs.Begins.{Begins}
use Rattle.jobs.specs.declared.Job.{Job}
use Rattle.joined.specs.Runs.{AllRan, left_by_runs}
use Rattle.joined.specs.Items.{Carried, BegunSo, RunsOf, CarriedOut, left_of, flash_left, ended_as, ending, item_of}
use Rattle.joined.proofs.Runs.{runs_of_job}

-- what the contract of a start gives is enough
pub begins_so : (b : Answer Job) (len g : ℕ) (a : Answer (List Step)) → Begins b len g a → BegunSo b len g a
unfolding Begins BegunSo
begins_so b len g (refused why) e = (why, e, refl)
begins_so b len g (given ss) h = h

module _ (s : Setting) (img : List ℕ) (c : Carried) where
  -- runs of a started job leave exactly the image and the steps of the book's progress
  runs_are_progress : (ss : List Step) (j : Job)
      → Bytes img
      → NameBytes c.command
      → start s img c.command ≡ given ss
      → Lists j (length img) s.granule ss
      → AllRan j img c.runs
      → left_by_runs j img c.runs ≡ progress s.granule (item_of c) img ss
  unfolding progress item_of
  runs_are_progress ss j bytes names e lists went =
      runs_of_job s.granule ss j img c.runs lists (never_refused_12 s img c.command ss bytes names e) went

  abbrev Same : Answer (List Step) → Type 0
  Same a =
      (flash_left s img c ≡ left_by s.granule (item_of c) img a)
      × (ending img c ≡ ended_by s.granule (item_of c) img a)

  when_given : (ss : List Step)
      → Bytes img
      → NameBytes c.command
      → start s img c.command ≡ given ss
      → BegunSo c.begun (length img) s.granule (given ss)
      → RunsOf c.begun img c.runs
      → Same (given ss)
  unfolding BegunSo RunsOf flash_left left_of ending ended_as left_by ended_by item_of
  when_given ss bytes names e (j, begun, lists) went =
      let left = runs_are_progress ss j bytes names e lists (rw begun at went) in
      (rw begun (ap (dropped s.granule c.wiped) left), rw begun (ap (λ (p : Progress). how_ended p.left) left))

  when_refused : (why : Refusal)
      → BegunSo c.begun (length img) s.granule (refused why)
      → Same (refused why)
  unfolding BegunSo flash_left left_of ending ended_as left_by ended_by dropped half_done
  when_refused why (told, e, _) = (rw e, rw e)

  pub item_by_code : Bytes img
      → NameBytes c.command
      → CarriedOut s img c
      → (flash_left s img c ≡ flash_after s img (item_of c)) × (ending img c ≡ outcome s img (item_of c))
  unfolding CarriedOut flash_after outcome item_of
  item_by_code bytes names (b, went) = by_answer (start s img c.command) refl b
    where
      by_answer : (a : Answer (List Step))
          → start s img c.command ≡ a
          → BegunSo c.begun (length img) s.granule a
          → Same (start s img c.command)
      by_answer (refused why) e b = rw e (when_refused why b)
      by_answer (given ss) e b = rw e (when_given ss bytes names e b went)

-- an item leaves bytes
pub still_bytes : (s : Setting) (img : List ℕ) (r : Reading) (i : Item the_commands)
    → Bytes img
    → NameBytes i.command
    → reading s img ≡ given r
    → Bytes (flash_after s img i)
unfolding reading
still_bytes s img r i bytes names e =
    let (v, ev, _) = bind_given (view s img) _ r e in
    let w = viewed s img v ev in
    let (choice, right) = one_item the_commands the_commands_right (beginning s img v w) img (read_by img v) (holds_at_first s img v w bytes) i names in
    right.holds.bytes
