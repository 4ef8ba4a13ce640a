use Rattle.std.proofs.Common.{◌≡◌, eqb}
use Rattle.rules.specs.Lists.{all}
use Rattle.rules.specs.Bytes.{erased_byte}
use Rattle.rules.specs.Commands.{slot_empty}
use Rattle.copies.proofs.is_erased.Given as goal

abbrev pub invariant-loop-stretch : goal.invariant-loop-stretch
invariant-loop-stretch l = all (λ b. eqb b erased_byte) l.stretch-iterator.rest.now ≡ slot_empty l.image l.at
