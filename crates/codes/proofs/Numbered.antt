-- The number and the lent numbers of an answer that is known. Assumes nothing.
use mathlib.Core.Path.{◌≡◌}
use Prim.Native.Nat.{ℕ}
use Rattle.rules.specs.Answers.{Answer, refused, given, number_of}
use Rattle.rules.specs.declared.Refusal.{Refusal}
use Rattle.codes.specs.Answered.{number, kept}

module _ {A : Type 0} {a : Answer A} where
  pub number-refused : {why : Refusal} → refused why ≡ a → number_of why ≡ number a
  unfolding number
  number-refused e = rw (← e)

  pub kept-refused : {why : Refusal} (f : A → ℕ) (old : ℕ) → refused why ≡ a → old ≡ kept f a old
  unfolding kept
  kept-refused f old e = rw (← e)

  pub number-given : {x : A} → given x ≡ a → 0 ≡ number a
  unfolding number
  number-given e = rw (← e)

  pub kept-given : {x : A} (f : A → ℕ) (old : ℕ) → given x ≡ a → f x ≡ kept f a old
  unfolding kept
  kept-given f old e = rw (← e)
