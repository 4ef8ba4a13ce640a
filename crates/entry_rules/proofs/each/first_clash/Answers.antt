use Rattle.std.proofs.Common.{arith, sym, ◌∙◌, drop_of_length-le}
use Rattle.entries.proofs.Turns.{turn}
use Rattle.entry_rules.specs.Inner.Rules.{entries_before}
use Rattle.entry_rules.proofs.FirstBroken.{clash_over, clash_here, clash_goes, before_next}
use Rattle.entry_rules.proofs.each.first_clash.Goals as goal

pub returns-then-not-earlier_keep : goal.returns-then-not-earlier_keep
returns-then-not-earlier_keep g c p d =
    let es = c.args.entries.now in
    let here = clash_here p (entries_before es c.loop-i.i) (turn es c.loop-i.i (omega arith)) (sym (c.earlier_keep.ensures p d) ∙ c.if-not-earlier_keep.true) in
    record { some = (omega (arith, c.loop-i.invariant.1 p d, here), omega arith); none = tt }

pub loop-i-preserved : goal.loop-i-preserved
loop-i-preserved g c =
    let es = c.args.entries.now in (
      omega arith,
      λ p d.
          let goes = clash_goes p (entries_before es c.loop-i.i) (turn es c.loop-i.i (omega arith)) (sym (c.earlier_keep.ensures p d) ∙ c.if-not-earlier_keep.false) in
          rw (before_next es c.loop-i.i) (omega (arith, c.loop-i.invariant.1 p d, goes)),
    )

pub returns : goal.returns
returns g c p d =
    let es = c.args.entries.now in
    let over = clash_over p (entries_before es c.loop-i.i) (drop_of_length-le es {i = c.loop-i.i} (omega arith)) in
    record { some = tt; none = omega (arith, c.loop-i.invariant.1 p d, over) }
