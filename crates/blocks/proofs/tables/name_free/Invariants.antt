use mathlib.Core.Path.{◌≡◌}
use Rattle.rules.specs.Bytes.{up_to_zero}
use Rattle.blocks.proofs.Naming.{others_named}
use Rattle.blocks.proofs.tables.name_free.Given as goal

-- no other entry below i has the name
abbrev pub invariant-loop-i : goal.invariant-loop-i
invariant-loop-i l =
    others_named l.entries l.e.0 (up_to_zero l.name) 0 ≡ others_named l.entries l.e.0 (up_to_zero l.name) l.i
