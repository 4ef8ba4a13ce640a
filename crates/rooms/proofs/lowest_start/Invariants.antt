use Prim.Native.Nat.{◌-◌}
use Rattle.rules.specs.Pointers.{places}
use Rattle.rooms.proofs.Candidates.{Candidate}
use Rattle.rooms.proofs.lowest_start.Given as goal

abbrev pub invariant-loop-a : goal.invariant-loop-a
invariant-loop-a l = Candidate l.len l.entries (places l.p) l.size l.a

abbrev pub decreases-loop-a : goal.decreases-loop-a
decreases-loop-a l = l.len - l.a
