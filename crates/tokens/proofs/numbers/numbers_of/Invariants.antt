use Rattle.tokens.proofs.Rows.{ReadFrom}
use Rattle.tokens.proofs.numbers.numbers_of.Given as goal

abbrev pub invariant-loop-end : goal.invariant-loop-end
invariant-loop-end l = ReadFrom l.line l.end l.row

abbrev pub decreases-loop-end : goal.decreases-loop-end
decreases-loop-end l = l.end
