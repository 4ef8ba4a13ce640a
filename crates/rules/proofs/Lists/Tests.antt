-- Facts about tests and answers: what a test that passed or failed says of its parts. Assumes nothing.
use mathlib.Core.Path.{◌≡◌, refl, ap₂, subst}
use mathlib.Core.Bool.{Bool, true, false, ◌&&◌, ◌||◌}
use mathlib.Core.Logic.{◌⊎◌, inl, inr}
use mathlib.Core.List.{List, [], ◌∷◌}
use Prim.Native.Nat.{ℕ}
use native.Mathlib.Omega.{arith}
use lib.Dec.{eqb}
use borrow.Author.Tests.{eqb-true, eq-eqb}
use Rattle.rules.specs.Lists.{same}
use Rattle.rules.specs.Answers.{Answer, refused, given, unless, ◌>>=◌}
use Rattle.rules.specs.declared.Refusal.{Refusal}

-- ---- tests

pub by_cases : (b : Bool) {P : Type 0} → (b ≡ true → P) → (b ≡ false → P) → P
by_cases true f g = f refl
by_cases false f g = g refl

pub clash : (b : Bool) → b ≡ true → b ≡ false → ⊥
clash b h k = let z : ◌≡◌ {A = ℕ} 0 1 = cc in omega arith

pub and_true : (a b : Bool) → a && b ≡ true → (a ≡ true) × (b ≡ true)
and_true true b h = (refl, h)
and_true false b h = absurd (clash false h refl)

pub both_true : (a b : Bool) → a ≡ true → b ≡ true → a && b ≡ true
both_true a b h k = rw (h, k)

pub or_true : (a b : Bool) → a || b ≡ true → (a ≡ true) ⊎ (b ≡ true)
or_true true b h = inl refl
or_true false b h = inr h

pub or_false : (a b : Bool) → a || b ≡ false → (a ≡ false) × (b ≡ false)
or_false true b h = absurd (clash true refl h)
or_false false b h = (refl, h)

-- ---- equal lists

pub same_true : (xs ys : List ℕ) → same xs ys ≡ true → xs ≡ ys
unfolding same
same_true [] [] h = refl
same_true [] (y ∷ ys) h = absurd (clash false h refl)
same_true (x ∷ xs) [] h = absurd (clash false h refl)
same_true (x ∷ xs) (y ∷ ys) h =
    let (p, q) = and_true (eqb x y) (same xs ys) h in
    ap₂ {C = List ℕ} (λ a b. a ∷ b) (eqb-true x y p) (same_true xs ys q)

pub same_refl : (xs : List ℕ) → same xs xs ≡ true
unfolding same
same_refl [] = refl
same_refl (x ∷ xs) = rw (eq-eqb x x refl, same_refl xs)

pub same_of : (xs ys : List ℕ) → xs ≡ ys → same xs ys ≡ true
same_of xs ys e = subst (λ (l : List ℕ). same xs l ≡ true) e (same_refl xs)

-- ---- answers

pub given_inj : {A : Type 0} (x y : A) → ◌≡◌ {A = Answer A} (given x) (given y) → x ≡ y
given_inj x y h = cc

pub refused_given : {A : Type 0} (why : Refusal) (x : A) → refused why ≡ given x → ⊥
refused_given why x h = let z : ◌≡◌ {A = ℕ} 0 1 = cc in omega arith

pub unless-given : {A : Type 0} (why : Refusal) (t : Bool) (a : Answer A) (x : A)
    → unless why t a ≡ given x
    → (t ≡ true) × (a ≡ given x)
unfolding unless
unless-given why true a x h = (refl, h)
unless-given why false a x h = absurd (refused_given why x h)

pub bind_given : {A B : Type 0} (a : Answer A) (f : A → Answer B) (x : B)
    → a >>= f ≡ given x
    → (y : A) × (a ≡ given y) × (f y ≡ given x)
bind_given (refused why) f x h = absurd (refused_given why x h)
bind_given (given y) f x h = (y, refl, h)
