-- `run` does the steps into places that are in a window. Assumes nothing.
use mathlib.Core.Path.{◌≡◌, refl, sym, ◌∙◌}
use Prim.Native.Nat.{◌+◌, ◌-◌, min}
use native.Mathlib.Omega.{arith}
use lib.ListN.{length, drop}
use mathlib.Core.Bool.{true}
use Rattle.rules.specs.Lists.{all}
use Rattle.rules.specs.Cuts.{inside}
use Rattle.rules.specs.Commands.{into_places}
use Rattle.rules.proofs.Lists.Tests.{and_true}
use Rattle.part_steps.specs.Parts.{place_room, meant}
use Rattle.part_steps.specs.Inner.Windows.{beyond, programs_inside, places_inside}
use Rattle.part_steps.proofs.PlaceNumbers.{number_cons, numbers_over}
use Rattle.part_steps.proofs.PlaceSteps.{inside_cons, inside_places, places_step, steps_none}
use Rattle.part_steps.proofs.into_places.IntoPlaces.run.Goals as goal

pub loop-i-init : goal.loop-i-init
loop-i-init c =
    let a = c.args in
    let p = c.self.inside in
    let inside-all : all (inside a.granule (length a.image.now)) (drop a.window.from (into_places p.at p.offset p.value.now (meant p.count p.places.now))) ≡ true = rw c.self.view_is c.requires in
    (refl, (sym (inside_places p.at p.offset p.value.now c.self.invariant a.granule (length a.image.now) a.window.from (meant p.count p.places.now)) ∙ inside-all, λ g. refl))

pub do_place-rest-requires : goal.do_place-rest-requires
do_place-rest-requires c =
    let p = c.self.inside in
    let i = c.loop-i.i in
    let ks = meant p.count p.places.now in
    let len = length c.loop-i.image in
    let from = c.loop-i.rest.from in
    let place = c.place_address-at in
    (and_true (programs_inside len place.result 8 from) (places_inside len p.at p.offset (from - 8) (drop (i + 1) ks))
    (sym (inside_cons len p.at p.offset from _ (drop (i + 1) ks) (drop i ks) place.result place.ensures.0
    (number_cons (min p.count place_room) i _ p.places.now refl (omega arith)))
    ∙ c.loop-i.invariant.1.0)).0

pub loop-i-preserved : goal.loop-i-preserved
unfolding beyond
loop-i-preserved c =
    let p = c.self.inside in
    let i = c.loop-i.i in
    let ks = meant p.count p.places.now in
    let len = length c.loop-i.image in
    let from = c.loop-i.rest.from in
    let place = c.place_address-at in
    let did = c.do_place-rest in
    let cons = number_cons (min p.count place_room) i _ p.places.now refl (omega arith) in
    let rest = (and_true (programs_inside len place.result 8 from) (places_inside len p.at p.offset (from - 8) (drop (i + 1) ks))
    (sym (inside_cons len p.at p.offset from _ (drop (i + 1) ks) (drop i ks) place.result place.ensures.0 cons)
    ∙ c.loop-i.invariant.1.0)).1 in (
      did.auto.image ∙ c.loop-i.invariant.0,
      (
        rw (did.auto.image, did.ensures.value) rest,
        λ g. c.loop-i.invariant.1.1 g
            ∙ places_step p.at p.offset p.value.now c.self.invariant g c.loop-i.rest did.result _ place.result (drop (i + 1) ks)
            (drop i ks) c.loop-i.image did.new.image place.ensures.0 cons did.ensures.value (did.ensures.by_index g),
      ),
    )

pub returns : goal.returns
returns c g =
    let p = c.self.inside in
    let ks = meant p.count p.places.now in
    rw (← c.self.view_is)
    (sym (c.loop-i.invariant.1.1 g
    ∙ steps_none p.at p.offset p.value.now c.self.invariant g c.loop-i.rest (drop c.loop-i.i ks) c.loop-i.image
    (numbers_over (min p.count place_room) c.loop-i.i p.places.now (omega arith))))
