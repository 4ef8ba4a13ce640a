use Rattle.std.proofs.Common.{◌≡◌, length}
use Rattle.rules.specs.Lists.{same}
use Rattle.copies.proofs.same_stretches.Given as goal

abbrev pub invariant-loop-x : goal.invariant-loop-x
invariant-loop-x l =
    let left = l.x-iterator in
    (length left.a.rest.now ≡ length left.b.rest.now)
    × ((left.a.size ≡ left.b.size) × (same left.a.rest.now left.b.rest.now ≡ same l.a l.b))
