-- What only the contract of an inner function cites: what is known, or 91 where its name is too long. Assumes nothing.
use Rattle.std.specs.Prelude.{ℕ, leb}
use Rattle.rules.specs.Answers.{Answer, given, unless, ◌>>=◌}
use Rattle.rules.specs.declared.SlotInfo.{SlotInfo}
use Rattle.rules.specs.declared.Refusal.TheVariants.{NameTooLong}

unfoldable pub fitting : Answer SlotInfo → ℕ → ℕ → Answer SlotInfo
fitting a size room = a >>= λ f. unless NameTooLong (leb size room) (given f)
