use Rattle.std.proofs.Common.{arith, sym, ◌∙◌, subst, true, false, ◌<◌, length, drop_of_length-le}
use Rattle.std.specs.Fn.{FnReturnsAt}
use Rattle.std.proofs.lemmas.Fn.{says_at}
use Rattle.walks.proofs.Loops.{all_over, all_fails, all_goes}
use Rattle.rules.specs.Table.{Entry}
use Rattle.entries.proofs.Turns.{turn}
use Rattle.entries.proofs.Entries.all.Goals as goal

pub returns-then-not-test : goal.returns-then-not-test
returns-then-not-test g c p d =
    let inside : c.loop-i.i < length c.args.self.now = omega arith in
    let says = subst (λ (e : Entry). FnReturnsAt g.F.Fn c.args.test e false) c.get.ensures (says_at g.F.Fn c.test.ensures c.if-not-test.true) in
    sym (c.loop-i.invariant p d ∙ all_fails p (turn c.args.self.now c.loop-i.i inside) (sym (d.gives c.loop-i.i false inside says)))

pub loop-i-preserved : goal.loop-i-preserved
loop-i-preserved g c p d =
    let inside : c.loop-i.i < length c.args.self.now = omega arith in
    let says = subst (λ (e : Entry). FnReturnsAt g.F.Fn c.args.test e true) c.get.ensures (says_at g.F.Fn c.test.ensures c.if-not-test.false) in
    c.loop-i.invariant p d ∙ all_goes p (turn c.args.self.now c.loop-i.i inside) (sym (d.gives c.loop-i.i true inside says))

pub returns : goal.returns
returns g c p d = sym (c.loop-i.invariant p d ∙ all_over p (drop_of_length-le c.args.self.now {i = c.loop-i.i} (omega arith)))
