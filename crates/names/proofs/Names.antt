-- The bytes before one that stops them, and the equality of two names from one byte to the next. Assumes nothing.
use Rattle.std.proofs.Common.{◌≡◌, ℕ, zero, suc, ◌<◌, ◌≤◌, List, [], ◌∷◌, Bool, true, false, cond, not, eqb, nat_lt, refl, sym, ◌∙◌, ap, length, get_or, take, drop, arith}
use Prim.Native.Nat.{zero-le}
use native.Mathlib.Nat.{le_of_suc-le-suc, not-suc-le-zero}
use lib.Seq.{drop-nil}
use Rattle.std.specs.List.{position, position_or_len, prefix_len}
use Rattle.std.specs.Option.{unwrap_or}
use Rattle.std.proofs.lemmas.List.Sums.{prefix_len-le-length}
use borrow.Author.Tests.{eqb-true, eqb-false, eq-eqb, ne_eqb, leb-false}
use Rattle.rules.specs.Lists.{same}
use Rattle.rules.specs.Bytes.{up_to_zero}
use Rattle.rules.proofs.Lists.Tests.{by_cases}
use Rattle.names.specs.Before.{before}

-- a name ends at its first zero
pub before_zero : (bs : List ℕ) → before 0 bs ≡ up_to_zero bs
unfolding before up_to_zero
before_zero [] = refl
before_zero (b ∷ bs) = rw (before_zero bs)

before_prefix : (stop : ℕ) (bs : List ℕ) → prefix_len (λ b. not (eqb b stop)) bs ≡ length (before stop bs)
unfolding before
before_prefix stop [] = refl
before_prefix stop (b ∷ bs) = by_cases (eqb b stop) (λ t. rw t) (λ t. rw (t, before_prefix stop bs) (omega arith))

pub before_length : (stop : ℕ) (bs : List ℕ)
    → unwrap_or (position (λ b. eqb b stop) bs) (length bs) ≡ length (before stop bs)
before_length stop bs =
    let n = position_or_len (λ b. eqb b stop) bs in
    let few : n ≤ length bs = prefix_len-le-length (λ b. not (eqb b stop)) bs in
    let e : n ≡ length (before stop bs) = before_prefix stop bs in
    by_cases (nat_lt n (length bs)) (λ t. rw t e)
    (λ t. let over : length bs < suc n = leb-false (suc n) (length bs) t in rw t (omega arith))

pub before_short : (stop : ℕ) (bs : List ℕ) → length (before stop bs) ≤ length bs
before_short stop bs = rw (before_prefix stop bs) at (prefix_len-le-length (λ b. not (eqb b stop)) bs)

-- a name is the front of its bytes
pub name_front : (bs : List ℕ) → take (length (up_to_zero bs)) bs ≡ up_to_zero bs
unfolding up_to_zero
name_front [] = refl
name_front (b ∷ bs) = by_cases (eqb b 0) (λ t. rw t) (λ t. rw t (ap (λ l. b ∷ l) (name_front bs)))

-- ---- two names

-- they are the same from place i on
abbrev pub same_from : List ℕ → List ℕ → ℕ → Bool
same_from a b i = same (up_to_zero (drop i a)) (up_to_zero (drop i b))

heads_differ : (x y : ℕ) (xs ys : List ℕ) (p q : Bool)
    → eqb x 0 ≡ p
    → eqb y 0 ≡ q
    → (x ≡ y → ⊥)
    → same (cond p [] (x ∷ up_to_zero xs)) (cond q [] (y ∷ up_to_zero ys)) ≡ false
unfolding same
heads_differ x y xs ys true true e f n = absurd (n (eqb-true x 0 e ∙ sym (eqb-true y 0 f)))
heads_differ x y xs ys true false e f n = refl
heads_differ x y xs ys false true e f n = refl
heads_differ x y xs ys false false e f n = simp (ne_eqb x y n)

pub same_fails : (a b : List ℕ) (i : ℕ) → i < length a → (get_or a i 0 ≡ get_or b i 0 → ⊥) → same_from a b i ≡ false
unfolding up_to_zero same
same_fails [] b i h n = absurd (not-suc-le-zero h)
same_fails (x ∷ xs) [] zero h n = simp (ne_eqb x 0 n)
same_fails (x ∷ xs) (y ∷ ys) zero h n = heads_differ x y xs ys (eqb x 0) (eqb y 0) refl refl n
same_fails (x ∷ xs) [] (suc i) h n = simp drop-nil at (same_fails xs [] i (le_of_suc-le-suc h) n)
same_fails (x ∷ xs) (y ∷ ys) (suc i) h n = same_fails xs ys i (le_of_suc-le-suc h) n

-- a zero byte in both ends both
pub same_ends : (a b : List ℕ) (i : ℕ)
    → i < length a
    → get_or a i 0 ≡ get_or b i 0
    → get_or a i 0 ≡ 0
    → same_from a b i ≡ true
unfolding up_to_zero same
same_ends [] b i h n z = absurd (not-suc-le-zero h)
same_ends (x ∷ xs) [] zero h n z = simp (eq-eqb x 0 z)
same_ends (x ∷ xs) (y ∷ ys) zero h n z = simp (eq-eqb x 0 z, eq-eqb y 0 (sym n ∙ z))
same_ends (x ∷ xs) [] (suc i) h n z = simp drop-nil at (same_ends xs [] i (le_of_suc-le-suc h) n z)
same_ends (x ∷ xs) (y ∷ ys) (suc i) h n z = same_ends xs ys i (le_of_suc-le-suc h) n z

pub same_goes : (a b : List ℕ) (i : ℕ)
    → i < length a
    → get_or a i 0 ≡ get_or b i 0
    → (get_or a i 0 ≡ 0 → ⊥)
    → same_from a b i ≡ same_from a b (suc i)
unfolding up_to_zero same
same_goes [] b i h n z = absurd (not-suc-le-zero h)
same_goes (x ∷ xs) [] zero h n z = absurd (z n)
same_goes (x ∷ xs) (y ∷ ys) zero h n z = simp (ne_eqb x 0 z, ne_eqb y 0 (λ e. z (n ∙ e)), eq-eqb x y n)
same_goes (x ∷ xs) [] (suc i) h n z = simp drop-nil at (same_goes xs [] i (le_of_suc-le-suc h) n z)
same_goes (x ∷ xs) (y ∷ ys) (suc i) h n z = same_goes xs ys i (le_of_suc-le-suc h) n z

-- past the end of the first, the second must end there too
head_ends : (y : ℕ) (ys : List ℕ) (q : Bool) → eqb y 0 ≡ q → same [] (cond q [] (y ∷ up_to_zero ys)) ≡ q
unfolding same
head_ends y ys true e = refl
head_ends y ys false e = refl

pub same_over : (a b : List ℕ) (i : ℕ) → length a ≤ i → same_from a b i ≡ eqb (get_or b i 0) 0
unfolding up_to_zero same
same_over [] [] zero h = refl
same_over [] [] (suc i) h = refl
same_over [] (y ∷ ys) zero h = head_ends y ys (eqb y 0) refl
same_over [] (y ∷ ys) (suc i) h = simp drop-nil at (same_over [] ys i zero-le)
same_over (x ∷ xs) b zero h = absurd (not-suc-le-zero h)
same_over (x ∷ xs) [] (suc i) h = simp drop-nil at (same_over xs [] i (le_of_suc-le-suc h))
same_over (x ∷ xs) (y ∷ ys) (suc i) h = same_over xs ys i (le_of_suc-le-suc h)

-- names that do not begin alike differ
pub begin_otherwise : (a b : List ℕ) → 0 < length a → eqb (get_or a 0 0) (get_or b 0 0) ≡ false → same (up_to_zero a) (up_to_zero b) ≡ false
begin_otherwise a b h d = same_fails a b 0 h (eqb-false (get_or a 0 0) (get_or b 0 0) d)
