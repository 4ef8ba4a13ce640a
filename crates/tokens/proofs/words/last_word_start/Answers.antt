-- `last_word_start`: no space stands from the index on. Assumes nothing.
use native.Mathlib.Omega.{arith}
use lib.Seq.{drop-length}
use Rattle.tokens.specs.Words.{later_words}
use Rattle.tokens.proofs.WordsOfLine.{later_goes}
use Rattle.tokens.proofs.words.last_word_start.Goals as goal

pub loop-i-init : goal.loop-i-init
unfolding later_words
loop-i-init c = (omega arith, rw (drop-length c.args.line.now))

pub loop-i-preserved : goal.loop-i-preserved
loop-i-preserved c =
    (omega (arith, c.loop-i.invariant.0), later_goes c.args.line.now c.loop-i.i (omega arith) c.loop-i.invariant.0 c.if-line-i-eq32.false c.loop-i.invariant.1)
