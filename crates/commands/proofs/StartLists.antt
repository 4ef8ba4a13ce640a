-- The job that a start returns denotes the listed steps of its command, none of them done, for the image's length and
-- the granule, and is within what the types of its fields can hold. Assumes nothing.
use mathlib.Core.Path.{◌≡◌, refl}
use mathlib.Core.List.{List}
use Prim.Native.Nat.{ℕ}
use lib.ListN.{length}
use Rattle.std.specs.Prelude.{IfOk}
use Rattle.rules.specs.Answers.{Answer, refused, given, ◌>>=◌}
use Rattle.rules.specs.declared.Setting.{Setting}
use Rattle.rules.specs.Copies.{view}
use Rattle.rules.specs.Commands.{Command, job, start}
use Rattle.rules.specs.declared.Step.{Step}
use Rattle.rules.specs.declared.View.{View}
use Rattle.jobs.proofs.Typed.{Typed}
use Rattle.jobs.specs.declared.Job.{Job}
use Rattle.drafts.specs.JobFor.{job_for, job_by}
use Rattle.drafts.proofs.JobSound.{job_sound}
use Rattle.commands.specs.Begins.{start_answer, Begins}

-- what is said of a start's result, by the steps that it stands for
abbrev Right : Setting → List ℕ → Answer Job → Answer (List Step) → Type 0
Right s img r a = Begins r (length img) s.granule a × IfOk r (λ j. Typed j)

start_right : (s : Setting) (img : List ℕ) (c : Command) → Right s img (start_answer s img c) (start s img c)
unfolding start job_by Begins
start_right s img c = by_view (view s img) refl
  where
    by_job : (v : View) → view s img ≡ given v → (a : Answer (List Step)) → job s img v c ≡ a
        → Right s img (a >>= λ _. given (job_for s.granule img v c)) a
    by_job v h (refused why) e = (refl, tt)
    by_job v h (given ss) e =
        let sound = job_sound s img v h c ss e in
        ((job_for s.granule img v c, refl, sound.lists), sound.typed)

    by_view : (a : Answer View) → view s img ≡ a
        → Right s img (a >>= λ v. job_by s img v c) (a >>= λ v. job s img v c)
    by_view (refused why) e = (refl, tt)
    by_view (given v) e = by_job v e (job s img v c) refl

pub start_lists : (s : Setting) (img : List ℕ) (c : Command)
    → Begins (start_answer s img c) (length img) s.granule (start s img c)
start_lists s img c = (start_right s img c).0

pub start_typed : (s : Setting) (img : List ℕ) (c : Command) → IfOk (start_answer s img c) (λ j. Typed j)
start_typed s img c = (start_right s img c).1
