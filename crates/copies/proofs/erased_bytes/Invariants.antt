use Rattle.std.proofs.Common.{◌≡◌, ◌&&◌, eqb, drop}
use Rattle.rules.specs.Lists.{all}
use Rattle.rules.specs.Bytes.{erased_byte}
use Rattle.copies.proofs.erased_bytes.Given as goal

abbrev pub invariant-loop-byte : goal.invariant-loop-byte
invariant-loop-byte l =
    l.erased && all (λ b. eqb b erased_byte) (drop l.byte-index l.a) ≡ all (λ b. eqb b erased_byte) l.a
