-- `erased_bytes` tests each byte. Assumes nothing.
use Rattle.std.proofs.Common.{sym, ◌∙◌, eqb, arith}
use Rattle.rules.specs.Bytes.{erased_byte}
use Rattle.copies.proofs.EqualBytes.{all_turn, all_over}
use Rattle.copies.proofs.erased_bytes.Goals as goal

pub loop-byte-preserved : goal.loop-byte-preserved
loop-byte-preserved c =
    all_turn (λ b. eqb b erased_byte) c.loop-byte.erased c.loop-byte.byte-index c.args.a.now (omega arith)
    ∙ c.loop-byte.invariant

pub returns : goal.returns
returns c =
    sym (all_over (λ b. eqb b erased_byte) c.loop-byte.erased c.loop-byte.byte-index c.args.a.now (omega arith))
    ∙ c.loop-byte.invariant
