-- What is told with a name, by whether the name fits. Assumes nothing.
use mathlib.Core.Path.{◌≡◌, sym}
use mathlib.Core.Bool.{Bool, true, false}
use Prim.Native.Nat.{ℕ}
use lib.Dec.{leb}
use Rattle.rules.specs.Answers.{Answer, refused, given, unless, ◌>>=◌}
use Rattle.rules.specs.declared.Refusal.{Refusal}
use Rattle.rules.specs.declared.SlotInfo.{SlotInfo}
use Rattle.rules.proofs.Lists.Tests.{refused_given, unless-given}
use Rattle.codes.specs.Inner.Fitting.{fitting}
use Rattle.rules.specs.declared.Refusal.TheVariants.{NameTooLong}

module _ {B : Type 0} (g : SlotInfo → B) where
  refused_too : (why : Refusal) (t : Bool) (f : SlotInfo)
      → refused why ≡ unless NameTooLong t (given f)
      → refused why ≡ unless NameTooLong t (given (g f))
  unfolding unless
  refused_too why true f e = absurd (refused_given why f e)
  refused_too why false f e = cc

  pub fits_refused : (a : Answer SlotInfo) (size room : ℕ) {why : Refusal}
      → refused why ≡ fitting a size room
      → refused why ≡ (a >>= λ f. unless NameTooLong (leb size room) (given (g f)))
  unfolding fitting
  fits_refused (refused w) size room e = cc
  fits_refused (given f) size room {why} e = refused_too why (leb size room) f e

  pub fits_given : (a : Answer SlotInfo) (size room : ℕ) {f : SlotInfo}
      → given f ≡ fitting a size room
      → (leb size room ≡ true) × (given (g f) ≡ (a >>= λ f. unless NameTooLong (leb size room) (given (g f))))
  unfolding fitting unless
  fits_given (refused w) size room {f} e = absurd (refused_given w f (sym e))
  fits_given (given y) size room {f} e =
      let (fits, same) = unless-given NameTooLong (leb size room) (given y) f (sym e) in
      let z : given (g f) ≡ given (g y) = cc in
      (fits, rw fits z)
