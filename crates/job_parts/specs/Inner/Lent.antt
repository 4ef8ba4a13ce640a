-- The steps of a part whose arrays are lent. Assumes nothing.
use Rattle.std.specs.Prelude.{List, []}
use Rattle.rules.specs.declared.Step.{Step}
use Rattle.job_parts.specs.declared.parts.Part.{Part}
use Rattle.job_parts.specs.declared.parts.Part.TheVariants.{Nothing, Rewrite, Places}

abbrev pub steps_in : Part → List Step
steps_in Nothing = []
steps_in (Rewrite ss) = ss
steps_in (Places ss) = ss
