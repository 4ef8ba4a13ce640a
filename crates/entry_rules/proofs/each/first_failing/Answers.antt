use Rattle.std.proofs.Common.{arith, sym, ◌≡◌, ◌<◌, false, true, length, drop_of_length-le}
use Rattle.std.proofs.lemmas.Fn.{says_at}
use Rattle.rules.specs.Lists.{first_failing}
use Rattle.entries.proofs.Turns.{turn}
use Rattle.entry_rules.proofs.FirstBroken.{failing_over, failing_here, failing_goes}
use Rattle.entry_rules.proofs.each.first_failing.Goals as goal

pub returns-then-not-keeps : goal.returns-then-not-keeps
returns-then-not-keeps g c p d =
    let es = c.args.entries.now in
    let inside : c.loop-i.i < length es = omega arith in
    let fails = sym (d.gives c.loop-i.i false inside (rw c.get.ensures at (says_at g.F.Fn c.keeps.ensures c.if-not-keeps.true))) in
    let here : c.loop-i.i ≡ first_failing p es = omega (arith, c.loop-i.invariant p d, failing_here p (turn es c.loop-i.i inside) fails) in
    record { some = (here, omega arith); none = tt }

pub loop-i-preserved : goal.loop-i-preserved
loop-i-preserved g c p d =
    let es = c.args.entries.now in
    let inside : c.loop-i.i < length es = omega arith in
    let passes = sym (d.gives c.loop-i.i true inside (rw c.get.ensures at (says_at g.F.Fn c.keeps.ensures c.if-not-keeps.false))) in
    omega (arith, c.loop-i.invariant p d, failing_goes p (turn es c.loop-i.i inside) passes)

pub returns : goal.returns
returns g c p d =
    let over = failing_over p (drop_of_length-le c.args.entries.now {i = c.loop-i.i} (omega arith)) in
    record { some = tt; none = omega (arith, c.loop-i.invariant p d, over) }
