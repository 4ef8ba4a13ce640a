-- `same_bytes` compares two lists. Assumes nothing.
use Rattle.std.proofs.Common.{◌≡◌, ap, sym, ◌∙◌, length, inl, inr, arith}
use Rattle.copies.proofs.EqualBytes.{same_turn, same_over}
use Rattle.copies.proofs.same_bytes.Goals as goal

pub loop-x-preserved : goal.loop-x-preserved
loop-x-preserved c =
    let turn = c.in-Some.ensures.steps in (
      omega (arith, ap length turn.0, ap length turn.1, c.loop-x.invariant.0),
      same_turn c.loop-x.same turn.0 turn.1 ∙ c.loop-x.invariant.1,
    )

pub returns : goal.returns
returns c =
    let left = c.loop-x.x-iterator in
    let over : length left.a.rest.now ≡ 0 = elim c.in-None.ensures.steps [
      | inl a ↦ a.1.0
      | inr b ↦ c.loop-x.invariant.0 ∙ b.1.0
    ] in
    sym (same_over c.loop-x.same left.a.rest.now left.b.rest.now c.loop-x.invariant.0 over) ∙ c.loop-x.invariant.1
