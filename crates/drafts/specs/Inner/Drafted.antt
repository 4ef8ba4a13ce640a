-- What only the contracts of inner functions cite: the job that a draft stands for. Assumes nothing.
use Rattle.std.specs.Prelude.{◌≡◌, List, ℕ, ◌+◌, ◌*◌, ◌≤◌, length, take}
use Rattle.rules.specs.Bytes.{block, block_size, bytes_of}
use Rattle.rules.specs.Answers.{Answer, given, ◌>>=◌}
use Rattle.jobs.specs.Jobs.{place_room, lent}
use Rattle.jobs.specs.declared.Job.{Job}
use Rattle.job_parts.specs.declared.Kind.TheVariants.{Nothing, Places}
use Rattle.blocks.specs.Made.{erased_block, no_places, no_value}
use Rattle.drafts.specs.declared.Draft.{Draft}
use Rattle.drafts.specs.declared.Draft.TheVariants.{NoSteps, Rewritten, IntoPlaces, Repaired}

-- the job with all its arrays, by the image that the draft was made on and the room beside it
unfoldable pub drafted : List ℕ → List ℕ → Draft → Job
drafted img room (NoSteps p) = lent p 0 erased_block erased_block no_places no_value
drafted img room (Rewritten p) = lent p 0 room room no_places no_value
drafted img room (IntoPlaces p v) = lent p 0 erased_block erased_block (take (2 * place_room) room) (bytes_of 8 v)
drafted img room (Repaired p from after) = lent p 0 (block img from) (block img after) no_places no_value

-- a refusal, or the job that a draft stands for
abbrev pub job_of : List ℕ → List ℕ → Answer Draft → Answer Job
job_of img room a = a >>= λ d. given (drafted img room d)

-- what its plan and its addresses must be: steps only where it has their bytes, and blocks inside that image
unfoldable pub Sound : List ℕ → Draft → Type 0
Sound img (NoSteps p) = (p.first ≡ Nothing) × ((p.second ≡ Nothing) × (p.count ≡ 0))
Sound img (Rewritten p) = p.count ≡ 0
Sound img (IntoPlaces p v) = (p.first ≡ Places) × (p.second ≡ Places)
Sound img (Repaired p from after) =
    (p.count ≡ 0) × ((from + block_size ≤ length img) × (after + block_size ≤ length img))

-- a draft that stands for this job, on whichever image
pub record Means (room : List ℕ) (d : Draft) (j : Job) : Type 0 where
  pub job : (img : List ℕ) → drafted img room d ≡ j
  pub sound : (img : List ℕ) → Sound img d
