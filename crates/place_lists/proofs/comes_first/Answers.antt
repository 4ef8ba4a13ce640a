use mathlib.Core.Path.{◌≡◌, sym, ◌∙◌}
use native.Mathlib.Omega.{arith}
use Rattle.rules.specs.Table.{starts}
use Rattle.rules.specs.Commands.{is_first}
use Rattle.rules.specs.Copies.{order_by}
use Rattle.places.specs.Inner.FreePlace.{free_from}
use Rattle.place_walks.proofs.Free.{none_above, free_places}
use Rattle.place_lists.proofs.Walking.{first_goes, first_found}
use Rattle.place_lists.proofs.comes_first.Goals as goal

pub loop-k-init : goal.loop-k-init
loop-k-init c =
    let p = c.args.p.now in
    rw c.free-k.ensures.free (none_above (starts c.args.t.now) p (free_from p) (free_places p))

pub returns-in-Live : goal.returns-in-Live
unfolding order_by
returns-in-Live c =
    let a = c.args in
    let judgement = rw c.value.ensures at c.judge.ensures in
    sym (first_found (starts a.t.now) a.p.now c.loop-k.k (omega arith) (omega arith) c.loop-k.invariant a.slot c.in-Live.s
    (sym judgement ∙ c.in-Live.is))

pub loop-k-preserved : goal.loop-k-preserved
loop-k-preserved c =
    let a = c.args in
    let judgement = rw c.value.ensures at c.judge.ensures in
    first_goes (starts a.t.now) a.p.now c.loop-k.k (omega arith) (omega arith) c.loop-k.invariant
    (λ s e. c.in_default.not-Live s (judgement ∙ e))

pub returns : goal.returns
unfolding is_first order_by
returns c =
    let none_left : c.loop-k.k ≡ 0 = omega arith in
    rw (rw none_left at c.loop-k.invariant)
