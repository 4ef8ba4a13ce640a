-- `are_inside` is the test of the steps into places from one on. Assumes nothing.
use mathlib.Core.Path.{refl, sym, ◌∙◌}
use Prim.Native.Nat.{◌+◌, min}
use native.Mathlib.Omega.{arith}
use lib.ListN.{drop}
use Rattle.part_steps.proofs.PlaceNumbers.{number_cons, numbers_over}
use Rattle.part_steps.proofs.PlaceSteps.{inside_cons, inside_none, inside_places}
use Rattle.part_steps.specs.Parts.{place_room, meant}
use Rattle.part_steps.proofs.into_places.IntoPlaces.are_inside.Goals as goal

pub returns-then-not-are_inside : goal.returns-then-not-are_inside
returns-then-not-are_inside c =
    let a = c.args in
    let p = c.self.inside in
    let i = c.loop-i.i in
    let ks = meant p.count p.places.now in
    rw (← c.self.view_is)
    (sym (inside_places p.at p.offset p.value.now c.self.invariant a.granule a.len a.from ks
    ∙ c.loop-i.invariant
    ∙ inside_cons a.len p.at p.offset c.loop-i.skip _ (drop (i + 1) ks) (drop i ks) c.place_address-at.result
    c.place_address-at.ensures.0 (number_cons (min p.count place_room) i _ p.places.now refl (omega arith))
    ∙ rw (← c.are_inside.ensures, c.if-not-are_inside.true)))

pub loop-i-preserved : goal.loop-i-preserved
loop-i-preserved c =
    let a = c.args in
    let p = c.self.inside in
    let i = c.loop-i.i in
    let ks = meant p.count p.places.now in
    c.loop-i.invariant
    ∙ inside_cons a.len p.at p.offset c.loop-i.skip _ (drop (i + 1) ks) (drop i ks) c.place_address-at.result
    c.place_address-at.ensures.0 (number_cons (min p.count place_room) i _ p.places.now refl (omega arith))
    ∙ rw (← c.are_inside.ensures, c.if-not-are_inside.false, c.saturating_sub-skip.ensures)

pub returns : goal.returns
returns c =
    let a = c.args in
    let p = c.self.inside in
    let ks = meant p.count p.places.now in
    rw (← c.self.view_is)
    (sym (inside_places p.at p.offset p.value.now c.self.invariant a.granule a.len a.from ks
    ∙ c.loop-i.invariant
    ∙ inside_none a.len p.at p.offset c.loop-i.skip (drop c.loop-i.i ks)
    (numbers_over (min p.count place_room) c.loop-i.i p.places.now (omega arith))))
