-- `put_decimal` puts the digits of the tenth part, then the last digit. Assumes nothing.
use Rattle.text.proofs.Puts.{then}
use Rattle.text.proofs.Digits.{decimal_short, decimal_long}
use Rattle.text.proofs.+put_decimal.Goals as goal

pub returns-then-number-lt10 : goal.returns-then-number-lt10
returns-then-number-lt10 t c = rw (decimal_short _ c.if-number-lt10.true) c.put_byte.ensures

pub returns : goal.returns
returns t c =
    rw (decimal_long _ c.if-number-lt10.false c.ranges.number.fits) (then c.put_decimal-end.ensures c.put_byte-2.ensures)
