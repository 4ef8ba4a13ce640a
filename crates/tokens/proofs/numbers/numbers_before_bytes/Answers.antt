-- `numbers_before_bytes` reads the last word as bytes and the words before it as numbers. Assumes nothing.
use mathlib.Core.Path.{sym, ◌∙◌}
use native.Mathlib.Omega.{arith}
use lib.Seq.{length-take-le}
use Rattle.tokens.proofs.WordsOfLine.{rest}
use Rattle.tokens.proofs.Rows.{no_bytes, some_bytes}
use Rattle.tokens.proofs.numbers.numbers_before_bytes.Goals as goal

pub returns-then-from-eq0 : goal.returns-then-from-eq0
returns-then-from-eq0 c =
    c.no_numbers.ensures ∙ no_bytes c.args.line.now c.last_word_start-from.ensures c.if-from-eq0.true

pub returns : goal.returns
returns c =
    let line = c.args.line.now in
    rw (c.is_bytes.ensures, rest line c.last_word_start-from.result)
    (some_bytes line c.last_word_start-from.ensures c.numbers_of-row.result (omega arith) c.numbers_of-row.ensures)

pub slice_bounds-numbers_of-length : goal.slice_bounds-numbers_of-length
slice_bounds-numbers_of-length c = sym (length-take-le _ _ (omega (arith, c.last_word_start-from.ensures.inside)))
