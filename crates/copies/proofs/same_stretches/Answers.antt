-- `same_stretches` compares two blocks in stretches. Assumes nothing.
use Rattle.std.proofs.Common.{◌≡◌, sym, ◌∙◌, ap, true, length, inl, inr, arith}
use Rattle.std.proofs.lemmas.List.{length-append}
use Rattle.copies.proofs.EqualBytes.{same_stretch, same_over}
use Rattle.copies.proofs.same_stretches.Goals as goal

pub same_bytes-requires : goal.same_bytes-requires
same_bytes-requires c =
    let turn = c.in-Some.ensures.steps in
    omega (arith, turn.0.1.1, turn.1.1.1, c.loop-x.invariant.0, c.loop-x.invariant.1.0)

pub returns-then-not-same_bytes : goal.returns-then-not-same_bytes
returns-then-not-same_bytes c =
    let turn = c.in-Some.ensures.steps in
    sym (same_stretch c.in-Some.x.now c.in-Some.y.now c.next.new.self.a.rest.now c.next.new.self.b.rest.now turn.0.1.0
    turn.1.1.0 (omega (arith, turn.0.1.1, turn.1.1.1, c.loop-x.invariant.0, c.loop-x.invariant.1.0))
    c.if-not-same_bytes.ensures)
    ∙ c.loop-x.invariant.1.1

pub loop-x-preserved : goal.loop-x-preserved
loop-x-preserved c =
    let turn = c.in-Some.ensures.steps in
    let as_long : length c.in-Some.x.now ≡ length c.in-Some.y.now =
    omega (arith, turn.0.1.1, turn.1.1.1, c.loop-x.invariant.0, c.loop-x.invariant.1.0) in
    let first = simp length-append at (ap length turn.0.1.0) in
    let second = simp length-append at (ap length turn.1.1.0) in (
      omega (arith, first, second, as_long, c.loop-x.invariant.0),
      (
        omega (arith, turn.0.0, turn.1.0, c.loop-x.invariant.1.0),
        sym (same_stretch c.in-Some.x.now c.in-Some.y.now c.next.new.self.a.rest.now c.next.new.self.b.rest.now
            turn.0.1.0 turn.1.1.0 as_long c.if-not-same_bytes.ensures)
            ∙ c.loop-x.invariant.1.1,
      ),
    )

pub returns : goal.returns
returns c =
    let left = c.loop-x.x-iterator in
    let over : length left.a.rest.now ≡ 0 = elim c.in-None.ensures.steps [
      | inl a ↦ a.1.1.0
      | inr b ↦ c.loop-x.invariant.0 ∙ b.1.1.0
    ] in
    sym (same_over true left.a.rest.now left.b.rest.now c.loop-x.invariant.0 over) ∙ c.loop-x.invariant.1.1
