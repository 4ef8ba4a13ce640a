use Rattle.std.proofs.Common.{◌≡◌}
use Rattle.names.proofs.Names.{same_from}
use Rattle.names.proofs.same_name.Given as goal

-- the names are the same if they are from byte i on
abbrev pub invariant-loop-i : goal.invariant-loop-i
invariant-loop-i l = same_from l.a l.b 0 ≡ same_from l.a l.b l.i
