-- The jobs of commands, on values that a reader can verify by hand. Assumes nothing.
use mathlib.Core.Path.{◌≡◌, refl}
use mathlib.Core.List.{[], ◌∷◌}
use Rattle.rules.specs.Lists.{member, without}
use Rattle.rules.specs.Commands.{half_cleared_names}
use Rattle.job_parts.specs.declared.Kind.TheVariants.{Rewrite, Places}
use Rattle.blocks.specs.Made.{rewrites, pair_rewritten, places_written}
use Rattle.drafts.specs.JobFor.{reorder_job, in_places_job, disable_job}

-- 0x11000 half cleared names the slot at 0x10000: the pair is rewritten, CPB1 at 0x7000 first
pub rewritten_where_half_cleared_names_another :
    ((disable_job 65536 4096 0x6000 0x7000 (0x11000 ∷ 0x10000 ∷ []) [] 0).plan.first ≡ Rewrite)
    × ((disable_job 65536 4096 0x6000 0x7000 (0x11000 ∷ 0x10000 ∷ []) [] 0).plan.at ≡ 0x7000)
unfolding member without half_cleared_names rewrites pair_rewritten reorder_job disable_job
rewritten_where_half_cleared_names_another = (refl, refl)

-- 0xA000 half cleared names none: its places are cleared, in CPB1 first
pub cleared_where_it_names_none :
    ((disable_job 65536 4096 0x6000 0x7000 (0xA000 ∷ 0x10000 ∷ []) [] 0).plan.first ≡ Places)
    × ((disable_job 65536 4096 0x6000 0x7000 (0xA000 ∷ 0x10000 ∷ []) [] 0).plan.at ≡ 0x7000)
unfolding member without half_cleared_names places_written in_places_job disable_job
cleared_where_it_names_none = (refl, refl)
