-- Lists that hold each number once and only numbers below a bound, as a boot order does. Assumes nothing.
use mathlib.Core.Path.{◌≡◌, refl, sym, ◌∙◌, subst}
use mathlib.Core.Bool.{false}
use mathlib.Core.List.{List, [], ◌∷◌, ◌++◌}
use Rattle.std.specs.Prelude.{Option, None, Some}
use Prim.Native.Nat.{ℕ, zero, suc, ◌≤◌, ◌<◌}
use native.Mathlib.Nat.{not-suc-le-zero}
use native.Mathlib.Omega.{arith}
use lib.Dec.{eqb}
use borrow.Author.Tests.{eqb-true, eqb-false, ne_eqb}
use lib.ListN.{length, length-append}
use Rattle.rules.specs.Lists.{member, without}
use Rattle.rules.specs.Pointers.{add_last, order}
use Rattle.rules.proofs.Lists.Tests.{by_cases, or_false}
use Rattle.rules.proofs.Order.Ordering.{slot_named, member_of_without}
use Rattle.rules.proofs.Order.Clearing.{named_starts, without_absent}

abbrev pub Once : ℕ → List ℕ → Type 0
Once n [] = Unit {0}
Once n (x ∷ o) = (member x o ≡ false) × (x < n) × Once n o

-- ---- a number left out

pub left_out : (k : ℕ) (o : List ℕ) → member k (without k o) ≡ false
unfolding member without
left_out k [] = refl
left_out k (x ∷ o) = by_cases (eqb k x) (λ t. rw t (left_out k o)) (λ t. rw (t, t) (left_out k o))

absent_of_without : (x k : ℕ) (o : List ℕ) → member x o ≡ false → member x (without k o) ≡ false
absent_of_without x k o h = by_cases (eqb k x)
    (λ t. subst (λ (y : ℕ). member y (without k o) ≡ false) (eqb-true k x t) (left_out k o))
    (λ t. member_of_without k x o t ∙ h)

pub once_without : (n k : ℕ) (o : List ℕ) → Once n o → Once n (without k o)
unfolding without
once_without n k [] h = tt
once_without n k (x ∷ o) (m, l, h) = by_cases (eqb k x)
    (λ t. rw t (once_without n k o h))
    (λ t. rw t (absent_of_without x k o m, l, once_without n k o h))

pub once_first : (n k : ℕ) (o : List ℕ) → k < n → Once n o → Once n (k ∷ without k o)
once_first n k o l h = (left_out k o, l, once_without n k o h)

-- ---- a number added last

pub absent_of_appended : (x k : ℕ) (o : List ℕ)
    → member x o ≡ false
    → eqb x k ≡ false
    → member x (o ++ (k ∷ [])) ≡ false
unfolding member
absent_of_appended x k [] h e = rw e
absent_of_appended x k (y ∷ o) h e =
    let (p, q) = or_false (eqb x y) (member x o) h in
    rw p (absent_of_appended x k o q e)

once_appended : (n k : ℕ) (o : List ℕ) → k < n → member k o ≡ false → Once n o → Once n (o ++ (k ∷ []))
unfolding member
once_appended n k [] l m h = (refl, l, tt)
once_appended n k (x ∷ o) l m (mx, lx, h) =
    let (p, q) = or_false (eqb k x) (member k o) m in
    (absent_of_appended x k o mx (ne_eqb x k (λ e. eqb-false k x p (sym e))), lx, once_appended n k o l q h)

-- ---- the boot order

pub once_order : (starts vs : List ℕ) → Once (length starts) (order starts vs)
unfolding order
once_order starts [] = tt
once_order starts (v ∷ vs) = added (slot_named starts v) refl (once_order starts vs)
  where
    added : (x : Option ℕ)
        → slot_named starts v ≡ x
        → Once (length starts) (order starts vs)
        → Once (length starts) (add_last x (order starts vs))
    added None e h = unfold add_last in h
    added (Some k) e h = unfold add_last in by_cases (member k (order starts vs))
        (λ t. rw t h)
        (λ t. rw t (once_appended (length starts) k (order starts vs) (named_starts starts v k e).0 t h))

-- no more slots than places
pub order-length : (starts vs : List ℕ) → length (order starts vs) ≤ length vs
unfolding order
order-length starts [] = omega arith
order-length starts (v ∷ vs) = added (slot_named starts v) (order-length starts vs)
  where
    added : (x : Option ℕ)
        → length (order starts vs) ≤ length vs
        → length (add_last x (order starts vs)) ≤ suc (length vs)
    added None h = unfold add_last in omega arith
    added (Some k) h = unfold add_last in by_cases (member k (order starts vs))
        (λ t. rw t (omega arith))
        (λ t. rw (t, length-append (order starts vs) (k ∷ [])) (omega arith))

-- ---- no more than there are numbers

pub without-length : (k : ℕ) (o : List ℕ) → length (without k o) ≤ length o
unfolding without
without-length k [] = omega arith
without-length k (x ∷ o) = by_cases (eqb k x)
    (λ t. rw t (omega (arith, without-length k o)))
    (λ t. rw t (omega (arith, without-length k o)))

one_fewer : (n k : ℕ) (o : List ℕ) → Once n o → length o ≤ suc (length (without k o))
unfolding without
one_fewer n k [] h = omega arith
one_fewer n k (x ∷ o) (m, l, h) = by_cases (eqb k x)
    (λ t. let absent = subst (λ (y : ℕ). member y o ≡ false) (sym (eqb-true k x t)) m in
    rw (t, without_absent k o absent) (omega arith))
    (λ t. rw t (omega (arith, one_fewer n k o h)))

once_below : (n : ℕ) (o : List ℕ) → Once (suc n) o → Once n (without n o)
unfolding without
once_below n [] h = tt
once_below n (x ∷ o) (m, l, h) = by_cases (eqb n x)
    (λ t. rw t (once_below n o h))
    (λ t. rw t (absent_of_without x n o m, lower (eqb-false n x t), once_below n o h))
  where
    lower : (n ≡ x → ⊥) → x < n
    lower e = omega arith

pub once_length : (n : ℕ) (o : List ℕ) → Once n o → length o ≤ n
once_length zero [] h = omega arith
once_length zero (x ∷ o) (m, l, h) = absurd (not-suc-le-zero l)
once_length (suc n) o h = omega (arith, one_fewer (suc n) n o h, once_length n (without n o) (once_below n o h))
