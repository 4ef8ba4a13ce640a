use Rattle.std.proofs.Common.{◌≡◌, ℕ, ◌+◌, drop}
use Rattle.rules.specs.Steps.{steps, programs}
use Rattle.device.proofs.program.Given as goal

abbrev pub invariant-loop-i : goal.invariant-loop-i
invariant-loop-i l = (g : ℕ)
    → steps g (programs l.at l.given) l.initial.image ≡ steps g (programs (l.at + l.i) (drop l.i l.given)) l.image
