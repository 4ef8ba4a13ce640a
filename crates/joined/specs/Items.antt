-- An item carried out by the code, as its caller sees it: a start, and runs of the job that it returned. Assumes nothing.
use Rattle.std.specs.Prelude.{◌≡◌, Bool, List, [], ◌∷◌, map, ℕ, length}
use Rattle.rules.specs.Answers.{Answer, refused, given, number_of}
use Rattle.rules.specs.declared.Setting.{Setting}
use Rattle.rules.specs.declared.Refusal.{Refusal}
use Rattle.rules.specs.Commands.{Command, start}
use Rattle.rules.specs.Cuts.{Progress, dropped}
use Rattle.rules.specs.Book.{the_commands, Item, Outcome, was_refused, how_ended}
use Rattle.rules.specs.declared.Step.{Step}
use Rattle.jobs.specs.declared.Job.{Job}
use Rattle.blocks.specs.Made.{Lists}
use Rattle.joined.specs.Runs.{Run, AllRan, left_by_runs}

-- a command, what its start returned, the runs, and which bytes a power failure inside an erase had wiped
pub record Carried : Type 0 where
  pub command : Command
  pub begun : Answer Job
  pub runs : List Run
  pub wiped : List Bool

-- a start was refused with the number of that refusal; or it returned a job of these steps, for an image of this length
-- and with this granule
unfoldable pub BegunSo : Answer Job → ℕ → ℕ → Answer (List Step) → Type 0
BegunSo b len g (refused why) = (told : Refusal) × (b ≡ refused told) × (number_of told ≡ number_of why)
BegunSo b len g (given ss) = (j : Job) × (b ≡ given j) × Lists j len g ss

-- a job that was started is run; where the start was refused there is none
unfoldable pub RunsOf : Answer Job → List ℕ → List Run → Type 0
RunsOf (refused why) img rs = rs ≡ []
RunsOf (given j) img rs = AllRan j img rs

-- it is as the contracts of the start and of `Job::run` say, from this flash. Of a start nothing but `BegunSo` is used
unfoldable pub CarriedOut : Setting → List ℕ → Carried → Type 0
CarriedOut s img c =
    BegunSo c.begun (length img) s.granule (start s img c.command) × RunsOf c.begun img c.runs

-- the image that the runs leave, and the steps that are then left
unfoldable pub left_of : Answer Job → List ℕ → List Run → Progress
left_of (refused why) img rs = record { image = img; left = [] }
left_of (given j) img rs = left_by_runs j img rs

-- the flash that it leaves
unfoldable pub flash_left : Setting → List ℕ → Carried → List ℕ
flash_left s img c = dropped s.granule c.wiped (left_of c.begun img c.runs)

unfoldable pub ended_as : Answer Job → List Step → Outcome
ended_as (refused why) ss = was_refused
ended_as (given j) ss = how_ended ss

-- refused by its start; finished if its job has no step left; else cut
unfoldable pub ending : List ℕ → Carried → Outcome
ending img c = ended_as c.begun (left_of c.begun img c.runs).left

-- the book's item
unfoldable pub item_of : Carried → Item the_commands
item_of c = record { command = c.command; budgets = map (λ (r : Run). r.budget) c.runs; wiped = c.wiped }

-- a list of them, each on the flash that the last one left
unfoldable pub AllCarriedOut : Setting → List ℕ → List Carried → Type 0
AllCarriedOut s img [] = Unit {0}
AllCarriedOut s img (c ∷ cs) = CarriedOut s img c × AllCarriedOut s (flash_left s img c) cs
