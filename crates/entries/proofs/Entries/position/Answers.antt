use Rattle.std.proofs.Common.{arith, sym, subst, true, false, ◌<◌, length, drop_of_length-le}
use Rattle.std.specs.Fn.{FnReturnsAt}
use Rattle.std.proofs.lemmas.Fn.{says_at}
use Rattle.walks.proofs.Loops.{find_over, find_here, find_goes}
use Rattle.rules.specs.Table.{Entry}
use Rattle.entries.proofs.Turns.{turn}
use Rattle.entries.proofs.Entries.position.Goals as goal

pub returns-then-test : goal.returns-then-test
returns-then-test g c p d =
    let inside : c.loop-i.i < length c.args.self.now = omega arith in
    let says = subst (λ (e : Entry). FnReturnsAt g.F.Fn c.args.test e true) c.get.ensures (says_at g.F.Fn c.test.ensures c.if-test.true) in
    let here = find_here p (turn c.args.self.now c.loop-i.i inside) (sym (d.gives c.loop-i.i true inside says)) in
    omega (arith, c.loop-i.invariant p d, here)

pub loop-i-preserved : goal.loop-i-preserved
loop-i-preserved g c p d =
    let inside : c.loop-i.i < length c.args.self.now = omega arith in
    let says = subst (λ (e : Entry). FnReturnsAt g.F.Fn c.args.test e false) c.get.ensures (says_at g.F.Fn c.test.ensures c.if-test.false) in
    let goes = find_goes p (turn c.args.self.now c.loop-i.i inside) (sym (d.gives c.loop-i.i false inside says)) in
    omega (arith, c.loop-i.invariant p d, goes)

pub returns : goal.returns
returns g c p d =
    let over = find_over p (drop_of_length-le c.args.self.now {i = c.loop-i.i} (omega arith)) in
    omega (arith, c.loop-i.invariant p d, over)
