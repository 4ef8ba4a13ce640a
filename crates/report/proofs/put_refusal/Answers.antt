-- `put_refusal` puts the line of a refusal, part by part. Assumes nothing.
use Rattle.text.proofs.Puts.{then}
use Rattle.report.specs.Listing.{refusal}
use Rattle.report.proofs.put_refusal.Goals as goal

pub returns : goal.returns
unfolding refusal
returns c =
    then c.put_bytes-end.ensures (then c.put_decimal-end.ensures c.put_byte.ensures)
