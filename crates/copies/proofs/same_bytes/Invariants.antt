use Rattle.std.proofs.Common.{◌≡◌, ◌&&◌, length}
use Rattle.rules.specs.Lists.{same}
use Rattle.copies.proofs.same_bytes.Given as goal

abbrev pub invariant-loop-x : goal.invariant-loop-x
invariant-loop-x l =
    (length l.x-iterator.a.rest.now ≡ length l.x-iterator.b.rest.now)
    × (l.same && same l.x-iterator.a.rest.now l.x-iterator.b.rest.now ≡ same l.a l.b)
