-- What a command that is started and run to its end answers and leaves. Assumes nothing.
use Rattle.std.specs.Prelude.{List, ℕ, zero, suc, length}
use Rattle.rules.specs.Answers.{Answer, refused, given}
use Rattle.rules.specs.Steps.{steps}
use Rattle.rules.specs.declared.Step.{Step}
use Rattle.jobs.specs.Jobs.{did_by_run, image_after_run, steps_left}
use Rattle.jobs.specs.declared.Job.{Job}

-- ---- a command

-- the refusal, or all its listed steps
unfoldable pub finished : Answer (List Step) → Answer ℕ
finished (refused why) = refused why
finished (given ss) = given (length ss)

-- the image as it was, or with all listed steps done
unfoldable pub left_finished : ℕ → List ℕ → Answer (List Step) → List ℕ
left_finished g img (refused why) = img
left_finished g img (given ss) = steps g ss img

-- ---- a job of which so many steps remain

unfoldable pub done_by : ℕ → Job → List ℕ → Answer ℕ
done_by zero j img = given 0
done_by (suc n) j img = did_by_run j (suc n) img

unfoldable pub left_by : ℕ → Job → List ℕ → List ℕ
left_by zero j img = img
left_by (suc n) j img = image_after_run j (suc n) img

-- the same of what a start returned
unfoldable pub done_begun : Answer Job → List ℕ → Answer ℕ
done_begun (refused why) img = refused why
done_begun (given j) img = done_by (steps_left j) j img

unfoldable pub left_begun : Answer Job → List ℕ → List ℕ
left_begun (refused why) img = img
left_begun (given j) img = left_by (steps_left j) j img
