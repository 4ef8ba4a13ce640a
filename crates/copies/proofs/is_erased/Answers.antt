-- `is_erased` tests a slot in stretches. Assumes nothing.
use Rattle.std.proofs.Common.{sym, ◌∙◌, true, eqb, arith}
use Rattle.rules.specs.Bytes.{erased_byte}
use Rattle.rules.specs.Commands.{slot_empty}
use Rattle.copies.proofs.EqualBytes.{all_stretch, all_over}
use Rattle.copies.proofs.is_erased.Goals as goal

pub loop-stretch-init : goal.loop-stretch-init
unfolding slot_empty
loop-stretch-init c =
    rw (c.into_iter-stretch-iterator.ensures.into_iter_gives, c.chunks-stretch-items.ensures.rest, c.block_at-block.ensures.0)

pub returns-then-not-erased_bytes : goal.returns-then-not-erased_bytes
returns-then-not-erased_bytes c =
    sym (all_stretch (λ b. eqb b erased_byte) c.in-Some.stretch.now c.next.new.self.rest.now c.in-Some.ensures.steps.1.0
    c.if-not-erased_bytes.ensures)
    ∙ c.loop-stretch.invariant

pub loop-stretch-preserved : goal.loop-stretch-preserved
loop-stretch-preserved c =
    sym (all_stretch (λ b. eqb b erased_byte) c.in-Some.stretch.now c.next.new.self.rest.now c.in-Some.ensures.steps.1.0
    c.if-not-erased_bytes.ensures)
    ∙ c.loop-stretch.invariant

pub returns : goal.returns
returns c =
    sym (all_over (λ b. eqb b erased_byte) true 0 c.loop-stretch.stretch-iterator.rest.now
    (omega (arith, c.in-None.ensures.steps.1.0)))
    ∙ c.loop-stretch.invariant
