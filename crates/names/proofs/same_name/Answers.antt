-- One law for each exit, and one for a turn.
use Rattle.std.proofs.Common.{◌≡◌, sym, ap, ◌∙◌, ℕ, eqb, length, add-one, arith}
use Rattle.names.proofs.Names.{same_fails, same_ends, same_goes, same_over}
use Rattle.names.proofs.same_name.Goals as goal

pub returns-then-x-byte_or_zero : goal.returns-then-x-byte_or_zero
returns-then-x-byte_or_zero c =
    let s = c.args in
    sym
    (c.loop-i.invariant
    ∙ same_fails s.a.now s.b.now c.loop-i.i (omega arith)
    (λ e. c.if-x-byte_or_zero.true (e ∙ sym c.byte_or_zero.ensures)))

pub returns-then-x-eq0 : goal.returns-then-x-eq0
returns-then-x-eq0 c =
    let s = c.args in
    let equal = c.if-x-byte_or_zero.false ∙ c.byte_or_zero.ensures in
    sym (c.loop-i.invariant ∙ same_ends s.a.now s.b.now c.loop-i.i (omega arith) equal c.if-x-eq0.true)

pub loop-i-preserved : goal.loop-i-preserved
loop-i-preserved c =
    let s = c.args in
    let equal = c.if-x-byte_or_zero.false ∙ c.byte_or_zero.ensures in
    let goes = same_goes s.a.now s.b.now c.loop-i.i (omega arith) equal c.if-x-eq0.false in
    rw add-one (c.loop-i.invariant ∙ goes)

pub returns : goal.returns
returns c =
    let s = c.args in
    let all : c.loop-i.i ≡ length s.a.now = omega arith in
    let over = same_over s.a.now s.b.now c.loop-i.i (omega arith) in
    sym (c.loop-i.invariant ∙ over ∙ ap (λ (n : ℕ). eqb n 0) (rw all (sym c.byte_or_zero-2.ensures)))
