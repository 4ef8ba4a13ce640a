-- `next` is the first of the steps into places from one on. Assumes nothing.
use mathlib.Core.Path.{refl, sym, ◌∙◌}
use native.Mathlib.Omega.{arith}
use Prim.Native.Nat.{min}
use Rattle.part_steps.specs.Parts.{place_room, meant}
use Rattle.part_steps.proofs.PlaceNumbers.{length_numbers}
use Rattle.part_steps.proofs.PlaceSteps.{next_place_read, no_next_place}
use Rattle.part_steps.proofs.into_places.IntoPlaces.next.Goals as goal

pub returns-then-min-i : goal.returns-then-min-i
returns-then-min-i c =
    let p = c.self.inside in
    rw (← c.self.view_is)
    (sym (no_next_place p.at p.offset p.value.now c.self.invariant c.args.from (meant p.count p.places.now)
    (rw (length_numbers (min p.count place_room) p.places.now) (omega arith))))

pub returns : goal.returns
returns c =
    let p = c.self.inside in
    rw (← c.self.view_is)
    (c.next_program.ensures
    ∙ next_place_read p.at p.offset p.value.now c.self.invariant c.args.from (min p.count place_room) p.places.now _
    c.place_address-at.result refl c.place_address-at.ensures.0 (omega arith))
