-- `next` is the first of a rewrite's steps from one on. Assumes nothing.
use mathlib.Core.Path.{◌≡◌, sym, ◌∙◌}
use native.Mathlib.Omega.{arith}
use lib.Seq.{take_all}
use lib.ListN.{take, drop, length-drop}
use Rattle.part_steps.specs.Inner.Windows.{rest_size}
use Rattle.part_steps.proofs.RewriteSteps.{next_zero, next_erase, next_rest, next_magic}
use Rattle.part_steps.proofs.rewriting.Rewriting.next.Goals as goal

pub returns-then-from-lt4 : goal.returns-then-from-lt4
returns-then-from-lt4 c =
    let r = c.self.inside in
    rw (← c.self.view_is) (sym (next_zero r.at r.block.now c.self.invariant.0 c.args.from c.if-from-lt4.true))

pub returns-then-from-eq4 : goal.returns-then-from-eq4
returns-then-from-eq4 c =
    let r = c.self.inside in
    rw (← c.self.view_is, c.if-from-eq4.true) (sym (next_erase r.at r.block.now c.self.invariant.0))

pub returns-then-skip-lt-REST_SIZE : goal.returns-then-skip-lt-REST_SIZE
returns-then-skip-lt-REST_SIZE c =
    let r = c.self.inside in
    let whole : take rest_size (drop 4 r.block.now) ≡ drop 4 r.block.now =
    take_all rest_size (drop 4 r.block.now) (simp length-drop (omega (arith, c.self.invariant.0))) in
    rw (← c.self.view_is)
    (c.next_program.ensures ∙ rw whole (sym (next_rest r.at r.block.now c.self.invariant.0 c.args.from (omega arith) (omega arith))))

pub returns : goal.returns
returns c =
    let r = c.self.inside in
    rw (← c.self.view_is)
    (c.next_program-2.ensures ∙ sym (next_magic r.at r.block.now c.self.invariant.0 c.args.from (omega arith) (omega arith)))
