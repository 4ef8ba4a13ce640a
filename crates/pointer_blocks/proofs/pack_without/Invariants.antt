use mathlib.Core.Path.{◌≡◌}
use Prim.Native.Nat.{◌+◌, ◌≤◌}
use lib.ListN.{length}
use Rattle.rules.specs.Bytes.{block_size}
use Rattle.rules.specs.Table.{starts}
use Rattle.rules.specs.Commands.{filled}
use Rattle.pointer_blocks.proofs.OrderPacked.{put_from}
use Rattle.pointer_blocks.proofs.pack_without.Given as goal

-- the pointers of the slots from i on are put
abbrev pub invariant-loop-i : goal.invariant-loop-i
invariant-loop-i l =
    ((l.count + l.i ≤ length l.order) × (length l.room ≡ block_size))
    × ((l.room ≡ filled l.p (put_from l.slot.0 (starts l.t) l.order l.i))
    × (l.count ≡ length (put_from l.slot.0 (starts l.t) l.order l.i)))
