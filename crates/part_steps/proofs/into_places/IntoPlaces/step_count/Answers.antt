-- `step_count` is the number of steps into places. Assumes nothing.
use mathlib.Core.Path.{sym, ◌∙◌}
use Prim.Native.Nat.{min}
use Rattle.part_steps.specs.Parts.{place_room, meant}
use Rattle.part_steps.proofs.PlaceNumbers.{length_numbers}
use Rattle.part_steps.proofs.PlaceSteps.{length_places}
use Rattle.part_steps.proofs.into_places.IntoPlaces.step_count.Goals as goal

pub returns : goal.returns
returns c =
    let p = c.self.inside in (
      rw (← c.self.view_is)
          (c.steps_into.ensures.0
          ∙ sym (length_places p.at p.offset p.value.now c.self.invariant (meant p.count p.places.now)
          ∙ rw (length_numbers (min p.count place_room) p.places.now))),
      c.steps_into.ensures.1,
    )
