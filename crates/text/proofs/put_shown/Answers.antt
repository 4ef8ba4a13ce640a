-- `put_shown` puts a name as it is shown: after i turns the first i bytes are put. Assumes nothing.
use mathlib.Core.List.{map}
use lib.ListN.{length-map, get_or-map}
use Rattle.text.specs.Shown.{shown}
use Rattle.text.proofs.Puts.{put_nothing, put_more, put_all}
use Rattle.text.proofs.put_shown.Goals as goal

pub loop-byte-init : goal.loop-byte-init
loop-byte-init c = put_nothing _ _

pub loop-byte-preserved : goal.loop-byte-preserved
loop-byte-preserved c =
    let name = c.args.name.now in
    let i = c.loop-byte.byte-index in
    put_more (map shown name) i (shown 0)
    (rw length-map c.loop-byte-test.true)
    c.loop-byte.invariant
    (rw (get_or-map shown name i 0, ← c.shown.ensures) c.put_byte-end.ensures)

pub returns : goal.returns
returns c =
    put_all (map shown c.args.name.now) c.loop-byte.byte-index (rw length-map c.loop-byte-test.false) c.loop-byte.invariant
