use native.Mathlib.Omega.{arith}
use native.Mathlib.Nat.{add_comm}
use lib.Seq.{take_all}
use Rattle.text.proofs.Puts.{put_nothing}
use Rattle.dead_places.specs.DeadLines.{numbered}
use Rattle.dead_places.proofs.Lines.{one_more_text}
use Rattle.report.specs.Listing.{slot_line}
use Rattle.report.proofs.put_lines.Goals as goal

pub loop-i-init : goal.loop-i-init
unfolding numbered
loop-i-init c = put_nothing _ _

pub loop-i-preserved : goal.loop-i-preserved
loop-i-preserved c =
    let a = c.args in
    one_more_text (slot_line a.setting a.image.now) 1 a.row.now c.loop-i.i (omega arith)
    c.loop-i.invariant
    (rw (add_comm 1 c.loop-i.i) c.put_line-end.ensures)

pub returns : goal.returns
returns c =
    rw (take_all c.loop-i.i c.args.row.now (omega arith)) at c.loop-i.invariant
