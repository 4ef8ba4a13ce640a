-- `put_dead` puts the header and the lines of the dead places, or nothing where no place is dead. Assumes nothing.
use Rattle.walks.proofs.Joined.{failed, passed}
use Rattle.text.proofs.Puts.{put_nothing, then}
use Rattle.dead_places.specs.DeadLines.{places_header, dead_part}
use mathlib.Core.Path.{ap}
use mathlib.Core.Bool.{not}
use Rattle.dead_places.proofs.put_dead.Goals as goal

pub returns : goal.returns
unfolding dead_part places_header
returns c =
    rw (passed c.any_dead.ensures (ap not c.if-not-any_dead.false))
    (then c.put_bytes-end.ensures c.put_lines.ensures)

pub returns-then-not-any_dead : goal.returns-then-not-any_dead
unfolding dead_part
returns-then-not-any_dead c = rw (failed c.any_dead.ensures (ap not c.if-not-any_dead.true)) (put_nothing _ _)
