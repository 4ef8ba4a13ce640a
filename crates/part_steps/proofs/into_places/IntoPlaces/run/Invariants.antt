use mathlib.Core.Path.{◌≡◌}
use mathlib.Core.Bool.{true}
use Prim.Native.Nat.{ℕ}
use lib.ListN.{length, drop}
use Rattle.rules.specs.Steps.{steps}
use Rattle.rules.specs.Commands.{into_places}
use Rattle.part_steps.specs.Parts.{meant}
use Rattle.part_steps.specs.Inner.Windows.{chosen, places_inside}
use Rattle.part_steps.proofs.into_places.IntoPlaces.run.Given as goal

-- what is still to do, of the places from one on
abbrev pub invariant-loop-i : goal.invariant-loop-i
invariant-loop-i l =
    let p = l.self-inside in
    (length l.image ≡ length l.initial.image)
    × ((places_inside (length l.image) p.at p.offset l.rest.from (drop l.i (meant p.count p.places.now)) ≡ true)
    × ((g : ℕ) → steps g (chosen l.initial.rest (into_places p.at p.offset p.value.now (meant p.count p.places.now))) l.initial.image
    ≡ steps g (chosen l.rest (into_places p.at p.offset p.value.now (drop l.i (meant p.count p.places.now)))) l.image))
