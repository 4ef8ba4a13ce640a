-- Refusals 1 to 3 stand before whatever is asked further, and what follows if none of them is due. Assumes nothing.
use mathlib.Core.Path.{◌≡◌, refl}
use mathlib.Core.Bool.{Bool, true, false}
use Prim.Native.Nat.{ℕ}
use Rattle.rules.specs.Answers.{Answer, given, unless, ◌>>=◌}
use Rattle.rules.specs.Numbers.{length_right, granule_right, addresses_right}
use Rattle.rules.specs.declared.Setting.{Setting}
use Rattle.rules.specs.declared.Refusal.TheVariants.{BadLength, BadGranule, BadAddresses}
use Rattle.rules.proofs.Lists.Tests.{unless-given}
use Rattle.bounds.specs.Inner.Due.{due, NoneDue}

after_three : {A : Type 0} (l g p : Bool) (a : Answer A)
    → unless BadLength l (unless BadGranule g (unless BadAddresses p a))
    ≡ ◌>>=◌ {A = Unit {0}} (unless BadLength l (unless BadGranule g (unless BadAddresses p (given tt)))) (λ _. a)
unfolding unless
after_three true true true a = refl
after_three true true false a = refl
after_three true false p a = refl
after_three false g p a = refl

module _ (s : Setting) (len : ℕ) where
  -- whatever is asked after the three tests
  pub asked_further : {A : Type 0} (a : Answer A)
      → unless BadLength (length_right len) (unless BadGranule (granule_right s.granule) (unless BadAddresses (addresses_right s len) a))
      ≡ (due s len >>= λ _. a)
  unfolding due
  asked_further a = after_three _ _ _ a

  pub none_due : due s len ≡ given tt → NoneDue s len
  unfolding due
  none_due h =
      let (long, h) = unless-given BadLength (length_right len) _ tt h in
      let (grained, h) = unless-given BadGranule (granule_right s.granule) _ tt h in
      let (placed, h) = unless-given BadAddresses (addresses_right s len) _ tt h in
      record { long = long; grained = grained; placed = placed }
