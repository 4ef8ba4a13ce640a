-- `put_bytes` puts its bytes: after i turns the first i of them are put. Assumes nothing.
use Rattle.text.proofs.Puts.{put_nothing, put_more, put_all}
use Rattle.text.proofs.put_bytes.Goals as goal

pub loop-byte-init : goal.loop-byte-init
loop-byte-init c = put_nothing _ _

pub loop-byte-preserved : goal.loop-byte-preserved
loop-byte-preserved c = put_more _ _ 0 c.loop-byte-test.true c.loop-byte.invariant c.put_byte-end.ensures

pub returns : goal.returns
returns c = put_all _ _ c.loop-byte-test.false c.loop-byte.invariant
