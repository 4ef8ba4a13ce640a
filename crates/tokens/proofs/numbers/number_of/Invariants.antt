use Rattle.std.proofs.Common.{◌≡◌, drop}
use Rattle.tokens.specs.Numbers.{number, number_from}
use Rattle.tokens.proofs.numbers.number_of.Given as goal

abbrev pub invariant-loop-byte : goal.invariant-loop-byte
invariant-loop-byte l = number l.word ≡ number_from l.value (drop l.byte-index l.word)
