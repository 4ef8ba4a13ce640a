use Prim.Native.Nat.{◌≤◌}
use native.Mathlib.Omega.{arith}
use native.Mathlib.Nat.{zero-add}
use lib.ListN.{length}
use lib.Seq.{take_all}
use Rattle.rules.specs.Table.{starts}
use Rattle.rules.specs.Pointers.{places as places_in}
use Rattle.places.proofs.Values.{value_at, length_places}
use Rattle.text.proofs.Puts.{put_nothing}
use Rattle.dead_places.specs.DeadLines.{numbered, judged_line}
use Rattle.dead_places.proofs.Lines.{one_more_text}
use Rattle.dead_places.proofs.put_lines.Goals as goal

pub loop-k-init : goal.loop-k-init
unfolding numbered
loop-k-init c = put_nothing _ _

pub loop-k-preserved : goal.loop-k-preserved
unfolding judged_line
loop-k-preserved c =
    let a = c.args in
    let k = c.loop-k.k in
    let held = value_at a.p.now k 0 (omega arith) in
    one_more_text (judged_line (starts a.t.now)) 0 (places_in a.p.now) k
    (omega (arith, length_places a.p.now))
    c.loop-k.invariant
    (rw (zero-add k, held, ← c.value-v.ensures, ← c.judge.ensures) c.put_line-end.ensures)

pub returns : goal.returns
returns c =
    let a = c.args in
    let over : length (places_in a.p.now) ≤ c.loop-k.k = omega (arith, length_places a.p.now) in
    rw (take_all c.loop-k.k (places_in a.p.now) over) at c.loop-k.invariant
