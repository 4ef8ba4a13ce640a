-- The refusal, or the parts of a flash that is opened. Assumes nothing.
use Rattle.report.specs.Listing.{listing_by, listing_for}
use Rattle.report.proofs.Inside.{with_inside}
use Rattle.report.proofs.listing_for.Goals as goal

pub returns-in-Err-clause-told : goal.returns-in-Err-clause-told
unfolding listing_by listing_for
returns-in-Err-clause-told c =
    let (told, inside) = with_inside c.put_refusal.ensures in
    rw c.in-Err.ensures.refused (rw c.number.ensures at told)

pub returns-in-Ok-clause-told : goal.returns-in-Ok-clause-told
unfolding listing_by listing_for
returns-in-Ok-clause-told c =
    let (told, inside) = with_inside c.put_parts.ensures in
    let (bytes, setting) = c.in-Ok.ensures.given in
    rw (← bytes, ← setting, c.in-Ok.flash.seen) told
