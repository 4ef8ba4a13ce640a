-- `hex::put` puts a pair for each byte: after i turns the first i are put. Assumes nothing.
use Rattle.std.proofs.Common.{refl}
use Rattle.text.proofs.Puts.{put_nothing}
use Rattle.answer_parts.proofs.Texts.{put_one_more, put_every}
use Rattle.answer_parts.specs.Hex.{hex, pair}
use Rattle.answer_parts.proofs.hex.put.Goals as goal

pub loop-byte-init : goal.loop-byte-init
unfolding hex
loop-byte-init c = put_nothing _ _

pub loop-byte-preserved : goal.loop-byte-preserved
unfolding hex
loop-byte-preserved c =
    put_one_more pair hex refl (λ x xs. refl) _ _ 0 c.loop-byte-test.true c.loop-byte.invariant c.put_pair-end.ensures

pub returns : goal.returns
unfolding hex
returns c = put_every pair hex refl (λ x xs. refl) _ _ c.loop-byte-test.false c.loop-byte.invariant
