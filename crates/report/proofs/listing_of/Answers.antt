-- `listing_of` refuses an image that is too long, and else puts the listing for the fixed setting. Assumes nothing.
use borrow.Author.Tests.{lt-leb, le-leb}
use Rattle.report.specs.Listing.{listing_setting, listing}
use Rattle.report.proofs.Inside.{with_inside}
use Rattle.report.proofs.listing_of.Goals as goal

pub returns-then-image-gt-IMAGE_LIMIT : goal.returns-then-image-gt-IMAGE_LIMIT
unfolding listing
returns-then-image-gt-IMAGE_LIMIT c =
    let (told, inside) = with_inside c.put_refusal.ensures in
    record {
      told = rw (lt-leb _ 65536 c.if-image-gt-IMAGE_LIMIT.true) told;
      inside = inside;
    }

pub returns : goal.returns
unfolding listing listing_setting
returns c =
    record {
      told = rw (le-leb _ 65536 c.if-image-gt-IMAGE_LIMIT.false) c.listing_for.ensures.told;
      inside = c.listing_for.ensures.inside;
    }
