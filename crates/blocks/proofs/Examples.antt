-- The jobs made up, on values that a reader can verify by hand. Assumes nothing.
use mathlib.Core.Path.{◌≡◌, refl}
use mathlib.Core.List.{[], ◌∷◌}
use lib.ListN.{length, take}
use Rattle.rules.specs.Bytes.{bytes_of}
use Rattle.job_parts.specs.declared.Kind.TheVariants.{Nothing}
use Rattle.blocks.specs.Made.{rewrites, no_job, no_steps, pair_rewritten, number_bytes, place_list}

-- places 2 and 300, lowest byte first
pub two_bytes_each : number_bytes (2 ∷ 300 ∷ []) ≡ 2 ∷ 0 ∷ 44 ∷ 1 ∷ []
unfolding bytes_of number_bytes
two_bytes_each = refl

-- zeros after them, 1,016 bytes in all
pub zeros_after :
    (take 6 (place_list (2 ∷ [])).places ≡ 2 ∷ 0 ∷ 0 ∷ 0 ∷ 0 ∷ 0 ∷ [])
    × ((length (place_list (2 ∷ [])).places ≡ 1016) × ((place_list (2 ∷ [])).count ≡ 1))
unfolding bytes_of number_bytes place_list
zeros_after = (refl, (refl, refl))

-- copy 1 of a pair, at 0x7000, comes before copy 0, at 0x6000
pub copy_1_first :
    ((pair_rewritten 65536 4096 0x6000 0x7000 []).plan.at ≡ 0x7000)
    × ((pair_rewritten 65536 4096 0x6000 0x7000 []).plan.after ≡ 0x6000)
unfolding rewrites pair_rewritten
copy_1_first = (refl, refl)

-- the job beside a refusal has two parts of no steps
pub nothing_beside_a_refusal : (no_job.plan.first ≡ Nothing) × (no_job.plan.second ≡ Nothing)
unfolding rewrites no_steps no_job
nothing_beside_a_refusal = (refl, refl)
