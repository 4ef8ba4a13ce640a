use Rattle.std.proofs.Common.{arith, ℕ, ◌∙◌, ap, subst, refl, Bool, cond, ◌<◌, length, drop_of_length-le}
use Rattle.std.specs.Fn.{FnReturnsAt}
use Rattle.std.proofs.lemmas.Fn.{says_at}
use Rattle.walks.proofs.Loops.{keep_over, keep_turn}
use Rattle.rules.specs.Table.{Entry}
use Rattle.entries.proofs.Turns.{turn, one_if, one_if_le}
use Rattle.entries.proofs.Entries.count.Goals as goal

pub loop-i-preserved : goal.loop-i-preserved
loop-i-preserved g c =
    let one = c.from-met.ensures ∙ one_if c.test.result in (
      omega (arith, one, one_if_le c.test.result),
      λ p d.
          let inside : c.loop-i.i < length c.args.self.now = omega arith in
          let says = subst (λ (e : Entry). FnReturnsAt g.F.Fn c.args.test e c.test.result) c.get.ensures (says_at g.F.Fn c.test.ensures refl) in
          let gives = ap {B = ℕ} (λ (b : Bool). cond b 1 0) (d.gives c.loop-i.i c.test.result inside says) in
          omega (arith, one, gives, c.loop-i.invariant.1 p d, keep_turn p (turn c.args.self.now c.loop-i.i inside)),
    )

pub returns-clause-kept : goal.returns-clause-kept
returns-clause-kept g c p d =
    let over = keep_over p (drop_of_length-le c.args.self.now {i = c.loop-i.i} (omega arith)) in
    omega (arith, c.loop-i.invariant.1 p d, over)
