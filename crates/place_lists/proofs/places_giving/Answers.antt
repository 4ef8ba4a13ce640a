use mathlib.Core.Path.{◌≡◌, sym, ap, ◌∙◌}
use native.Mathlib.Omega.{arith}
use lib.ListN.{take}
use lib.Seq.{length-take-le}
use Rattle.rules.specs.Table.{starts}
use Rattle.rules.specs.Pointers.{places}
use Rattle.rules.specs.Commands.{giving}
use Rattle.blocks.specs.Made.{place_list}
use Rattle.places.specs.Inner.FreePlace.{free_from}
use Rattle.place_walks.proofs.Free.{free_places}
use Rattle.place_lists.proofs.Noting.{counted_as}
use Rattle.place_lists.proofs.Walking.{giving_goes, giving_here, giving_over, giving_few, length_places}
use Rattle.place_lists.proofs.places_giving.Goals.{then-does_give, else-does_give}
use Rattle.place_lists.proofs.places_giving.Goals as goal

pub loop-k-init : goal.loop-k-init
unfolding giving
loop-k-init c = c.no_places-found.ensures

pub push-requires-clause-room : goal.push-requires-clause-room
push-requires-clause-room c =
    let a = c.args in
    let slots = starts a.t.now in
    let k = c.loop-k.k in
    let below = take k (places a.p.now) in
    omega (
      arith,
      counted_as (giving slots a.slot.0 0 below) c.loop-k.found c.loop-k.invariant,
      giving_few slots a.slot.0 0 below,
      length-take-le k (places a.p.now) (omega (arith, length_places a.p.now)),
    )

pub loop-k-preserved : goal.loop-k-preserved
loop-k-preserved c =
    let a = c.args in
    let slots = starts a.t.now in
    let k = c.loop-k.k in
    let ks = giving slots a.slot.0 0 (take k (places a.p.now)) in
    elim c.if-does_give.branch [
      | then-does_give w ↦
          w.found-is
          ∙ w.push.ensures ks c.loop-k.invariant
          ∙ ap place_list (sym (giving_here slots a.slot.0 a.p.now k (omega arith)
          (sym c.does_give.ensures ∙ w.if-does_give.true)))
      | else-does_give w ↦
          w.found-is
          ∙ c.loop-k.invariant
          ∙ ap place_list (sym (giving_goes slots a.slot.0 a.p.now k (omega arith)
          (sym c.does_give.ensures ∙ w.if-does_give.false)))
    ]

pub returns : goal.returns
returns c =
    let a = c.args in
    let all : c.loop-k.k ≡ free_from a.p.now = omega arith in
    c.loop-k.invariant
    ∙ ap place_list (giving_over (starts a.t.now) a.slot.0 a.p.now c.loop-k.k (rw all (free_places a.p.now)))
