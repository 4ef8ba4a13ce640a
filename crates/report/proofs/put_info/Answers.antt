use Rattle.text.proofs.Puts.{then}
use Rattle.report.specs.Listing.{info_text, told}
use Rattle.report.proofs.put_info.Goals as goal

pub returns-in-Err : goal.returns-in-Err
unfolding info_text told
returns-in-Err c = rw (← c.slot_info.ensures, c.in-Err.is) c.put_byte.ensures

pub returns-in-Ok : goal.returns-in-Ok
unfolding info_text told
returns-in-Ok c =
    rw (← c.slot_info.ensures, c.in-Ok.is)
    (then c.put_byte-end.ensures
    (then c.put_decimal-end.ensures
    (then c.put_byte-end-in-Ok.ensures
    (then c.put_decimal-end-in-Ok.ensures
    c.put_byte-in-Ok.ensures))))
