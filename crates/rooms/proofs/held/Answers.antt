use Rattle.std.proofs.Common.{◌≡◌, [], sym, ◌∙◌, arith, drop}
use Rattle.rules.specs.Lists.{member}
use Rattle.rules.specs.Pointers.{places}
use Rattle.walks.proofs.Loops.{member_here, member_goes}
use Rattle.places.proofs.Values.{place_turn, place_over}
use Rattle.rooms.proofs.held.Goals as goal

pub returns-then-count-eq0 : goal.returns-then-count-eq0
unfolding member
returns-then-count-eq0 c =
    let none : drop 0 (places c.args.p.now) ≡ [] = place_over c.args.p.now 0 (omega arith) in rw none

pub returns-then-v-value : goal.returns-then-v-value
returns-then-v-value c =
    sym (member_here c.args.v (place_turn c.args.p.now 0 (omega arith)) (c.if-v-value.true ∙ c.value.ensures))

pub returns : goal.returns
returns c =
    c.occurs_above.ensures
    ∙ sym (member_goes c.args.v (place_turn c.args.p.now 0 (omega arith)) (λ e. c.if-v-value.false (e ∙ sym c.value.ensures)))
