use Rattle.std.proofs.Common.{arith, refl, sym, ◌∙◌, ◌≡◌, ◌+◌, ◌-◌}
use Rattle.entry_rules.specs.Inner.Ascending.{ascend}
use Rattle.entry_rules.proofs.Ascending.{ascend_next, ascend_fewer}
use Rattle.entry_rules.proofs.ranges.ascending.Goals as goal

pub loop-i-init : goal.loop-i-init
unfolding ascend
loop-i-init c = refl

pub loop-i-preserved : goal.loop-i-preserved
loop-i-preserved c =
    let es = c.args.entries.now in
    let back : c.loop-i.i - 1 + 1 ≡ c.loop-i.i = omega arith in
    let ends = rw (c.get.ensures, c.get-in-loop-i.ensures) at (sym c.ends_before.ensures ∙ c.if-not-ends_before.false) in
    rw back at (ascend_next es (c.loop-i.i - 1) (rw back ends) (rw back c.loop-i.invariant))

pub returns : goal.returns
returns c =
    let es = c.args.entries.now in
    (omega arith, ascend_fewer es c.len.result c.loop-i.i (omega arith) c.loop-i.invariant)
