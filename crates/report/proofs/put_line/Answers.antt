-- `put_line` puts the line of a slot, part by part. Assumes nothing.
use Rattle.text.proofs.Puts.{then}
use Rattle.report.specs.Listing.{slot_line}
use Rattle.report.proofs.put_line.Goals as goal

pub returns : goal.returns
unfolding slot_line
returns c =
    then c.put_decimal-end.ensures
    (then c.put_byte-end.ensures
    (then c.put_decimal-end-2.ensures
    (then c.put_byte-end-2.ensures
    (then (rw c.slot_name.ensures at c.put_shown-end.ensures)
    c.put_info.ensures))))
