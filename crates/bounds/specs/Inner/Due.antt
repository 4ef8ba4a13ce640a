-- Refusals 1 to 3 in their order, and what holds where none of them is due. Assumes nothing.
use Rattle.std.specs.Prelude.{◌≡◌, true, ℕ}
use Rattle.rules.specs.Answers.{Answer, given, unless}
use Rattle.rules.specs.Numbers.{length_right, granule_right, addresses_right}
use Rattle.rules.specs.declared.Setting.{Setting}
use Rattle.rules.specs.declared.Refusal.TheVariants.{BadLength, BadGranule, BadAddresses}

-- the first of refusals 1 to 3 that is due
unfoldable pub due : Setting → ℕ → Answer (Unit {0})
due s len =
    unless BadLength (length_right len)
    (unless BadGranule (granule_right s.granule) (unless BadAddresses (addresses_right s len) (given tt)))

-- none of them is due
pub record NoneDue (s : Setting) (len : ℕ) : Type 0 where
  pub long : length_right len ≡ true
  pub grained : granule_right s.granule ≡ true
  pub placed : addresses_right s len ≡ true
