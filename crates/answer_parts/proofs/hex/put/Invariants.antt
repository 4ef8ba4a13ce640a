use Rattle.std.proofs.Common.{take}
use Rattle.text.specs.Put.{Put}
use Rattle.answer_parts.specs.Hex.{hex}
use Rattle.answer_parts.proofs.hex.put.Given as goal

abbrev pub invariant-loop-byte : goal.invariant-loop-byte
invariant-loop-byte l = Put l.initial.out l.initial.end (hex (take l.byte-index l.bytes)) l.out l.end
