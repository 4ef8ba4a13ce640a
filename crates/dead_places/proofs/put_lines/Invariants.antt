use lib.ListN.{take}
use Rattle.rules.specs.Table.{starts}
use Rattle.rules.specs.Pointers.{places as places_in}
use Rattle.text.specs.Put.{Put}
use Rattle.dead_places.specs.DeadLines.{numbered, judged_line}
use Rattle.dead_places.proofs.put_lines.Given as goal

-- the lines of the first k places are put
abbrev pub invariant-loop-k : goal.invariant-loop-k
invariant-loop-k l =
    Put l.initial.out l.initial.end (numbered (judged_line (starts l.t)) 0 (take l.k (places_in l.p))) l.out l.end
