-- Commands carried out with two runs, as `joined` says it of any number, and the readers asked. Assumes nothing.
use Rattle.std.specs.Prelude.{◌≡◌, Bool, true, List, [], ◌∷◌, ℕ}
use Rattle.rules.specs.Answers.{Answer, refused, given}
use Rattle.rules.specs.declared.Setting.{Setting}
use Rattle.rules.specs.Copies.{pairs_agree}
use Rattle.rules.specs.Commands.{Command}
use Rattle.jobs.specs.declared.Job.{Job}
use Rattle.jobs.specs.Jobs.{Ran, after_call}
use Rattle.joined.specs.Runs.{Run, AllRan}
use Rattle.joined.specs.Items.{Carried, CarriedOut}
use Rattle.joined.specs.ReadOut.{ReadFrom}
use Rattle.joined.specs.Claim.{Demand3OfCode}

-- a run, and one more that left and answered r, and left an image
abbrev pub two_runs : Run → ℕ → Ran → List ℕ → List Run
two_runs one second r img' = one ∷ record { budget = second; returned = r; image = img' } ∷ []

-- runs with these two budgets, the last of which left and answered r, and left the image img'
unfoldable pub RanTwice : Job → List ℕ → ℕ → ℕ → Ran → List ℕ → Type 0
RanTwice j img first second r img' =
    (one : Run) × (one.budget ≡ first) × AllRan j img (two_runs one second r img')

-- an item is as the theorem asks, and demand 3 holds of it, with nothing left to assume but that the pairs agree
unfoldable pub AsAsked : Setting → List ℕ → Carried → Type 0
AsAsked s img c = CarriedOut s img c × (pairs_agree s img ≡ true → Demand3OfCode s img (c ∷ []))

-- a start of this command that was refused and left the flash as it was; or one that returned a job, then two such runs,
-- the last of which left this job and answered so: as asked, whatever an erase in which the power then fails had wiped
unfoldable pub CarriedTwice : Setting → Command → List ℕ → ℕ → ℕ → Answer (Job × Answer ℕ) → List ℕ → Type 0
CarriedTwice s command img first second (refused why) img' =
    (img' ≡ img) × ((wiped : List Bool)
    → AsAsked s img (record { command = command; begun = refused why; runs = []; wiped = wiped }))
CarriedTwice s command img first second (given (j', did)) img' =
    (j : Job) × ((one : Run) × (one.budget ≡ first) × ((wiped : List Bool)
    → AsAsked s img
    (record { command = command; begun = given j; runs = two_runs one second (after_call j' did) img'; wiped = wiped })))

-- the two readers asked: some part was returned, this answer was given, and the row was left so
unfoldable pub ReadOutBy : Setting → List ℕ → Answer ℕ → List ℕ → List ℕ → Type 0
ReadOutBy s img answer row row' =
    (part : List ℕ) × ReadFrom s img (record { part = part; answer = answer; row = row; row_left = row' })
