use mathlib.Core.Path.{◌≡◌}
use lib.ListN.{drop}
use Rattle.part_steps.specs.Parts.{meant}
use Rattle.part_steps.specs.Inner.Windows.{places_inside}
use Rattle.part_steps.proofs.into_places.IntoPlaces.are_inside.Given as goal

-- of the places from one on the same is left to ask
abbrev pub invariant-loop-i : goal.invariant-loop-i
invariant-loop-i l =
    let p = l.self-inside in
    places_inside l.len p.at p.offset l.from (meant p.count p.places.now)
    ≡ places_inside l.len p.at p.offset l.skip (drop l.i (meant p.count p.places.now))
