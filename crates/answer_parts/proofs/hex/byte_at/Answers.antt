-- `byte_at` answers the byte of a pair. Assumes nothing.
use Rattle.std.proofs.Common.{length, ◌/◌, arith}
use borrow.Author.Tests.{lt-leb}
use Rattle.answer_parts.specs.Hex.{byte_at}
use Rattle.answer_parts.proofs.HexDigits.{digit_or_zero}
use Rattle.answer_parts.proofs.hex.byte_at.Goals as goal

pub returns : goal.returns
unfolding byte_at
returns c =
    rw (
      lt-leb (length c.args.word.now / 2) c.args.pair (omega arith),
      c.unwrap_or.ensures,
      c.digit.ensures.value,
      c.unwrap_or-2.ensures,
      c.digit-2.ensures.value,
    ) (simp digit_or_zero)
