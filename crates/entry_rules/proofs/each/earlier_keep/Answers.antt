use Rattle.std.proofs.Common.{arith, refl, sym, ◌∙◌, ◌≡◌, true, false, get_or}
use Rattle.std.proofs.lemmas.Fn.{says_at_two}
use Rattle.rules.specs.Lists.{all}
use Rattle.rules.specs.Table.{no_entry}
use Rattle.walks.proofs.Loops.{all_goes}
use Rattle.entry_rules.specs.Inner.Rules.{entries_before}
use Rattle.entry_rules.proofs.FirstBroken.{before_next, one_before_fails}
use Rattle.entry_rules.proofs.each.earlier_keep.Goals as goal

pub loop-k-init : goal.loop-k-init
unfolding all entries_before
loop-k-init g c = (omega arith, λ p d. refl)

pub returns-then-not-keep : goal.returns-then-not-keep
returns-then-not-keep g c p d =
    let es = c.args.entries.now in
    let says = rw (c.get.ensures, c.get-this.ensures) at (says_at_two g.F.Fn c.keep.ensures c.if-not-keep.true) in
    let fails = sym (d.gives c.loop-k.k c.args.e.0 false (omega arith) c.requires.within says) in
    sym (one_before_fails (λ d. p d (get_or es c.args.e.0 no_entry)) es c.loop-k.k c.args.e.0 (omega arith) fails)

pub loop-k-preserved : goal.loop-k-preserved
loop-k-preserved g c = (
  omega arith,
  λ p d.
      let es = c.args.entries.now in
      let says = rw (c.get.ensures, c.get-this.ensures) at (says_at_two g.F.Fn c.keep.ensures c.if-not-keep.false) in
      let passes = sym (d.gives c.loop-k.k c.args.e.0 true (omega arith) c.requires.within says) in
      all_goes (λ d. p d (get_or es c.args.e.0 no_entry)) (before_next es c.loop-k.k) passes ∙ c.loop-k.invariant.1 p d,
)

pub returns : goal.returns
returns g c p d =
    let e : c.loop-k.k ≡ c.args.e.0 = omega arith in
    sym (rw e at (c.loop-k.invariant.1 p d))
