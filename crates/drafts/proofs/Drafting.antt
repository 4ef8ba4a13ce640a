-- The drafts of each form, and the jobs that they stand for. Assumes nothing.
use mathlib.Core.Path.{◌≡◌, ap, ◌∙◌, subst}
use mathlib.Core.Bool.{true, false}
use mathlib.Core.List.{List}
use Prim.Native.Nat.{ℕ, ◌*◌}
use lib.ListN.{take}
use Rattle.rules.specs.Bytes.{bytes_of}
use Rattle.jobs.specs.Jobs.{place_room, lent}
use Rattle.jobs.specs.declared.Job.{Job}
use Rattle.job_parts.specs.declared.Plan.{Plan}
use Rattle.blocks.specs.Made.{erased_block, no_places, no_value, rewrites_plan, rewrites, no_steps, pair_rewritten, places_plan, places_written}
use Rattle.blocks.specs.declared.PlaceList.{PlaceList}
use Rattle.drafts.specs.Inner.Drafted.{drafted, Sound, Means}
use Rattle.drafts.specs.declared.Draft.{Draft}
use Rattle.drafts.specs.declared.Draft.TheVariants.{NoSteps, Rewritten, IntoPlaces}

module _ (len granule : ℕ) (p : Plan) where
  pub none_means : (room : List ℕ)
      → p ≡ rewrites_plan len granule false 0 false 0
      → Means room (NoSteps p) (no_steps len granule)
  unfolding drafted Sound rewrites no_steps
  none_means room ep = record {
    job = λ img. ap (λ (q : Plan). lent q 0 erased_block erased_block no_places no_value) ep;
    sound = λ img. (
      ap (λ (q : Plan). q.first) ep,
      (ap (λ (q : Plan). q.second) ep, ap (λ (q : Plan). q.count) ep),
    );
  }

  pub pair_means : (a0 a1 : ℕ) (room : List ℕ)
      → p ≡ rewrites_plan len granule true a1 true a0
      → Means room (Rewritten p) (pair_rewritten len granule a0 a1 room)
  unfolding drafted Sound rewrites pair_rewritten
  pair_means a0 a1 room ep = record {
    job = λ img. ap (λ (q : Plan). lent q 0 room room no_places no_value) ep;
    sound = λ img. ap (λ (q : Plan). q.count) ep;
  }

  pub places_means : (offset at after v : ℕ) (found : PlaceList) (room : List ℕ)
      → p ≡ places_plan len granule offset at after found.count
      → take (2 * place_room) room ≡ found.places
      → Means room (IntoPlaces p v) (places_written len granule offset at after found (bytes_of 8 v))
  unfolding drafted Sound places_written
  places_means offset at after v found room ep er = record {
    job = λ img.
        ap (λ (q : Plan). lent q 0 erased_block erased_block (take (2 * place_room) room) (bytes_of 8 v)) ep
        ∙ ap (λ (ks : List ℕ). lent (places_plan len granule offset at after found.count) 0 erased_block
        erased_block ks (bytes_of 8 v)) er;
    sound = λ img. (ap (λ (q : Plan). q.first) ep, ap (λ (q : Plan). q.second) ep);
  }

-- a draft that stands for a job stands for whichever is equal to it
pub means_too : {room : List ℕ} {d : Draft} {j j' : Job} → j ≡ j' → Means room d j → Means room d j'
means_too {room} {d} e m = subst (λ (j : Job). Means room d j) e m
