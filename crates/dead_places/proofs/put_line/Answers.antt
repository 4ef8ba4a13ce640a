-- `put_line` puts the line of a dead place, part by part, and nothing for one that is not dead. Assumes nothing.
use Rattle.walks.proofs.Joined.{failed, passed}
use Rattle.text.proofs.Puts.{put_nothing, then}
use Rattle.dead_places.specs.DeadLines.{place_line}
use mathlib.Core.Path.{ap}
use mathlib.Core.Bool.{not}
use Rattle.dead_places.proofs.put_line.Goals as goal

pub returns : goal.returns
unfolding place_line
returns c =
    rw (passed c.is_dead.ensures (ap not c.if-not-is_dead.false))
    (then c.put_decimal-end.ensures
    (then c.put_byte-end.ensures
    (then c.put_kind-end.ensures
    (then c.put_byte-end-2.ensures
    (then c.put_decimal-end-2.ensures
    c.put_byte.ensures)))))

pub returns-then-not-is_dead : goal.returns-then-not-is_dead
unfolding place_line
returns-then-not-is_dead c = rw (failed c.is_dead.ensures (ap not c.if-not-is_dead.true)) (put_nothing _ _)
