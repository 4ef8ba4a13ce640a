use Rattle.std.proofs.Common.{take, map}
use Rattle.text.specs.Put.{Put}
use Rattle.text.specs.Shown.{shown}
use Rattle.text.proofs.put_shown.Given as goal

abbrev pub invariant-loop-byte : goal.invariant-loop-byte
invariant-loop-byte l = Put l.initial.out l.initial.end (take l.byte-index (map shown l.name)) l.out l.end
