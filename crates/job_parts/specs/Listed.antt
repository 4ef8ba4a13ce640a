-- The steps of a part of a job, and those listed when the command started. Assumes nothing.
use Rattle.std.specs.Prelude.{List, [], ◌++◌, ℕ}
use Rattle.rules.specs.Steps.{rewrite}
use Rattle.rules.specs.Commands.{into_places}
use Rattle.rules.specs.declared.Step.{Step}
use Rattle.part_steps.specs.Parts.{meant}
use Rattle.job_parts.specs.declared.Kind.{Kind}
use Rattle.job_parts.specs.declared.Kind.TheVariants.{Nothing, Rewrite, Places}
use Rattle.job_parts.specs.declared.Plan.{Plan}

-- the steps of a part: none, a block rewritten, or eight bytes into each of some places
unfoldable pub part : Kind → ℕ → ℕ → List ℕ → List ℕ → List ℕ → List Step
part Nothing at offset b ks v = []
part Rewrite at offset b ks v = rewrite at b
part Places at offset b ks v = into_places at offset v ks

-- the steps listed when the command started: those of the first part, then those of the second
unfoldable pub listed : Plan → List ℕ → List ℕ → List ℕ → List ℕ → List Step
listed p b0 b1 ks v =
    part p.first p.at p.offset b0 (meant p.count ks) v
    ++ part p.second p.after p.offset b1 (meant p.count ks) v
