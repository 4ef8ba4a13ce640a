-- What starting a command returns: document 01's refusal and no job, or the job of the listed steps. Assumes nothing.
use Rattle.std.specs.Prelude.{◌≡◌, List, ℕ}
use Rattle.rules.specs.Answers.{Answer, refused, given, ◌>>=◌}
use Rattle.rules.specs.declared.Setting.{Setting}
use Rattle.rules.specs.Copies.{view}
use Rattle.rules.specs.Commands.{Command, enable, disable, rename, create, delete, repair}
use Rattle.rules.specs.declared.Step.{Step}
use Rattle.jobs.specs.declared.Job.{Job}
use Rattle.blocks.specs.Made.{Lists}
use Rattle.drafts.specs.JobFor.{job_by}
use Rattle.commands.specs.declared.Command.{Command as Asked}
use Rattle.commands.specs.declared.Command.TheVariants.{Enable, Disable, Rename, Create, Delete, Repair}

-- the documents' command, by the code's and the name lent beside it
unfoldable pub command_of : Asked → List ℕ → Command
command_of (Enable slot) name = enable slot.0
command_of (Disable slot) name = disable slot.0
command_of (Rename slot) name = rename slot.0 name
command_of (Create size) name = create name size
command_of (Delete slot) name = delete slot.0
command_of Repair name = repair

-- every refusal in its order, or the job: "A refusal returns its number and no job"
abbrev pub start_answer : Setting → List ℕ → Command → Answer Job
start_answer s img c = view s img >>= λ v. job_by s img v c

-- refused so, or started with a job of these steps, for an image of this length and with this granule
unfoldable pub Begins : Answer Job → ℕ → ℕ → Answer (List Step) → Type 0
Begins r len g (refused why) = r ≡ refused why
Begins r len g (given ss) = (j : Job) × (r ≡ given j) × Lists j len g ss
