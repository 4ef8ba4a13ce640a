-- `raised_by` is the entry's end where the range overlaps it, else the range's start. Assumes nothing.
use mathlib.Core.Path.{◌≡◌, sym}
use mathlib.Core.Bool.{true, false, ◌||◌}
use Prim.Native.Nat.{◌+◌}
use lib.Dec.{leb}
use Rattle.rules.specs.Table.{ranges_apart}
use Rattle.rules.specs.Commands.{new_range}
use Rattle.rooms.specs.Inner.Candidates.{raised_by}
use Rattle.rooms.proofs.raised_by.Goals as goal

pub returns-then-start-size : goal.returns-then-start-size
unfolding raised_by ranges_apart new_range
returns-then-start-size c =
    let a = c.args in
    let e = a.e.now in
    let apart : leb (a.start + a.size) e.start || leb (e.start + e.size) a.start ≡ true =
    rw (c.start-from.ensures, c.size.ensures) at c.if-start-size.true in
    sym (rw apart)

pub returns : goal.returns
unfolding raised_by ranges_apart new_range
returns c =
    let a = c.args in
    let e = a.e.now in
    let over : leb (a.start + a.size) e.start || leb (e.start + e.size) a.start ≡ false =
    rw (c.start-from.ensures, c.size.ensures) at c.if-start-size.false in
    rw (c.start-from.ensures, c.size.ensures, over)
