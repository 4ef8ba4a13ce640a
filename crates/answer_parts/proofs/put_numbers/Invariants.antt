use Rattle.std.proofs.Common.{take}
use Rattle.text.specs.Put.{Put}
use Rattle.answer_parts.specs.Answers.{spaced_row}
use Rattle.answer_parts.proofs.put_numbers.Given as goal

abbrev pub invariant-loop-number : goal.invariant-loop-number
invariant-loop-number l = Put l.initial.out l.initial.end (spaced_row (take l.number-index l.row)) l.out l.end
