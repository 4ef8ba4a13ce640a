use lib.ListN.{take}
use Rattle.text.specs.Put.{Put}
use Rattle.dead_places.specs.DeadLines.{numbered}
use Rattle.report.specs.Listing.{slot_line}
use Rattle.report.proofs.put_lines.Given as goal

-- the first i lines are put
abbrev pub invariant-loop-i : goal.invariant-loop-i
invariant-loop-i l =
    Put l.initial.out l.initial.end (numbered (slot_line l.setting l.image) 1 (take l.i l.row)) l.out l.end
