-- The slot that a pointer's value names, and the boot order once the lowest free place names a slot. Assumes nothing.
use mathlib.Core.Path.{◌≡◌, refl, sym, ap, ◌∙◌}
use mathlib.Core.Bool.{Bool, true, false, cond}
use mathlib.Core.List.{List, [], ◌∷◌, ◌++◌}
use Rattle.std.specs.Prelude.{Option, None, Some}
use Prim.Native.Nat.{ℕ, zero, suc, ◌<◌}
use native.Mathlib.Nat.{le_of_suc-le-suc, not-suc-le-zero}
use native.Mathlib.Omega.{arith}
use lib.Dec.{eqb}
use borrow.Author.Tests.{eqb-true, eqb-false, eq-eqb, ne_eqb}
use lib.ListN.{length, set}
use Rattle.rules.specs.Lists.{member, without}
use Rattle.rules.specs.Pointers.{all_ones, all_zeros, top_byte_erased, slot_at, live_or, judged, is_erased, slot_given, gives, add_last, order}
use Rattle.rules.specs.Commands.{below, free_place}
use Rattle.rules.specs.declared.Place.{Place}
use Rattle.rules.specs.declared.Place.TheVariants.{Erased, Spent, Live, PartWritten, Stray}
use Rattle.rules.proofs.Lists.Tests.{by_cases, clash}

-- ---- the slot that a value names

abbrev pub slot_named : List ℕ → ℕ → Option ℕ
slot_named starts v = slot_given (judged starts v)

given_live : (v : ℕ) (test : Bool) (o : Option ℕ) → slot_given (live_or (cond test PartWritten (Stray v)) o) ≡ o
unfolding slot_given live_or
given_live v true None = refl
given_live v false None = refl
given_live v test (Some k) = refl

pub all_ones_name_none : (starts : List ℕ) (v : ℕ) → all_ones v ≡ true → slot_named starts v ≡ None
unfolding slot_given judged
all_ones_name_none starts v t = rw t

pub zeros_name_none : (starts : List ℕ) (v : ℕ) → all_ones v ≡ false → all_zeros v ≡ true → slot_named starts v ≡ None
unfolding slot_given judged
zeros_name_none starts v f t = rw (f, t)

pub zero_names_none : (starts : List ℕ) → slot_named starts 0 ≡ None
unfolding all_ones all_zeros
zero_names_none starts = zeros_name_none starts 0 refl refl

pub other_values_name : (starts : List ℕ) (v : ℕ)
    → all_ones v ≡ false
    → all_zeros v ≡ false
    → slot_named starts v ≡ slot_at starts v
unfolding judged
other_values_name starts v f z = rw (f, z) (given_live v (top_byte_erased v) (slot_at starts v))

pub erased_names_none : (starts : List ℕ) (v : ℕ) → is_erased (judged starts v) ≡ true → slot_named starts v ≡ None
unfolding is_erased slot_given
erased_names_none starts v = of (judged starts v)
  where
    of : (p : Place) → is_erased p ≡ true → slot_given p ≡ None
    of Erased t = refl
    of Spent t = refl
    of (Live s) t = absurd (clash false t refl)
    of PartWritten t = refl
    of (Stray w) t = refl

pub giving_names : (starts : List ℕ) (k v : ℕ) → gives k (judged starts v) ≡ true → slot_named starts v ≡ Some k
unfolding gives slot_given
giving_names starts k v = of (judged starts v)
  where
    of : (p : Place) → gives k p ≡ true → slot_given p ≡ Some k
    of Erased t = absurd (clash false t refl)
    of Spent t = absurd (clash false t refl)
    of (Live s) t = ap {B = Option ℕ} Some (sym (eqb-true k s.0 t))
    of PartWritten t = absurd (clash false t refl)
    of (Stray w) t = absurd (clash false t refl)

pub naming_gives : (starts : List ℕ) (k v : ℕ) → slot_named starts v ≡ Some k → gives k (judged starts v) ≡ true
unfolding gives slot_given
naming_gives starts k v = of (judged starts v)
  where
    of : (p : Place) → slot_given p ≡ Some k → gives k p ≡ true
    of Erased e = absurd (let z : ◌≡◌ {A = ℕ} 0 1 = cc in omega arith)
    of Spent e = absurd (let z : ◌≡◌ {A = ℕ} 0 1 = cc in omega arith)
    of (Live s) e = let same : k ≡ s.0 = cc in eq-eqb k s.0 same
    of PartWritten e = absurd (let z : ◌≡◌ {A = ℕ} 0 1 = cc in omega arith)
    of (Stray w) e = absurd (let z : ◌≡◌ {A = ℕ} 0 1 = cc in omega arith)

-- a place is erased by its value alone
pub erased_by_value : (starts : List ℕ) (v : ℕ) → is_erased (judged starts v) ≡ all_ones v
unfolding judged is_erased
erased_by_value starts v =
    by_cases (all_ones v)
    (λ t. rw t)
    (λ t. by_cases (all_zeros v) (λ z. rw (t, z)) (λ z. rw (t, z, used (top_byte_erased v) (slot_at starts v))))
  where
    used : (test : Bool) (o : Option ℕ) → is_erased (live_or (cond test PartWritten (Stray v)) o) ≡ false
    used true None = unfold live_or is_erased in refl
    used false None = unfold live_or is_erased in refl
    used test (Some k) = unfold live_or is_erased in refl

-- ---- a number left out of a list

pub without_appended_same : (k : ℕ) (o : List ℕ) → without k (o ++ (k ∷ [])) ≡ without k o
unfolding without
without_appended_same k [] = rw (eq-eqb k k refl)
without_appended_same k (x ∷ o) = rw (without_appended_same k o)

pub without_appended_other : (k j : ℕ) (o : List ℕ)
    → eqb k j ≡ false
    → without k (o ++ (j ∷ [])) ≡ without k o ++ (j ∷ [])
unfolding without
without_appended_other k j [] h = rw h
without_appended_other k j (x ∷ o) h =
    by_cases (eqb k x)
    (λ t. rw (t, without_appended_other k j o h))
    (λ t. rw (t, without_appended_other k j o h))

pub eqb_swapped : (a b : ℕ) → eqb a b ≡ eqb b a
eqb_swapped a b =
    by_cases (eqb b a)
    (λ t. rw (t, eqb-true b a t, eq-eqb a a refl))
    (λ t. rw (t, ne_eqb a b (λ e. eqb-false b a t (sym e))))

pub member_of_without : (k j : ℕ) (o : List ℕ) → eqb k j ≡ false → member j (without k o) ≡ member j o
unfolding without member
member_of_without k j [] h = refl
member_of_without k j (x ∷ o) h =
    by_cases (eqb k x)
    (λ t. rw (t, member_of_without k j o h, ← eqb-true k x t, eqb_swapped j k, h))
    (λ t. rw (t, member_of_without k j o h))

-- ---- the boot order once the lowest free place names a slot

-- a lower place comes after the slot that is first
add_last_after_first : (k : ℕ) (x : Option ℕ) (o : List ℕ)
    → add_last x (k ∷ without k o) ≡ k ∷ without k (add_last x o)
unfolding add_last member
add_last_after_first k None o = refl
add_last_after_first k (Some j) o =
    by_cases (eqb k j)
    (λ t. by_cases (member j o)
    (λ m. rw (m, ← eqb-true k j t, eq-eqb k k refl))
    (λ m. rw (m, ← eqb-true k j t, eq-eqb k k refl, without_appended_same)))
    (λ t. by_cases (member j o)
    (λ m. rw (member_of_without k j o t, m, eqb_swapped j k, t))
    (λ m. rw (member_of_without k j o t, m, eqb_swapped j k, t, without_appended_other k j o t)))

pub below_is_zero : (t : Bool) (n : ℕ) → below t n ≡ 0 → (t ≡ true) × (n ≡ 0)
unfolding below
below_is_zero true zero h = (refl, refl)
below_is_zero false zero h = absurd (omega arith)
below_is_zero true (suc n) h = absurd (omega arith)
below_is_zero false (suc n) h = absurd (omega arith)

pub below_is_suc : (t : Bool) (n u : ℕ) → below t n ≡ suc u → n ≡ u
unfolding below
below_is_suc true zero u h = omega arith
below_is_suc false zero u h = omega arith
below_is_suc true (suc n) u h = omega arith
below_is_suc false (suc n) u h = omega arith

module _ (starts : List ℕ) where
  order_of_erased : (vs : List ℕ) → free_place starts vs ≡ 0 → order starts vs ≡ []
  unfolding order free_place add_last
  order_of_erased [] h = refl
  order_of_erased (v ∷ vs) h =
      let (e, n) = below_is_zero (is_erased (judged starts v)) (free_place starts vs) h in
      rw (erased_names_none starts v e, order_of_erased vs n)

  pub order_enabled : (vs : List ℕ) (u a k : ℕ)
      → free_place starts vs ≡ u
      → u < length vs
      → slot_named starts a ≡ Some k
      → order starts (set vs u a) ≡ k ∷ without k (order starts vs)
  unfolding order free_place add_last member without
  order_enabled [] u a k h l e = absurd (not-suc-le-zero l)
  order_enabled (v ∷ vs) zero a k h l e =
      let (t, n) = below_is_zero (is_erased (judged starts v)) (free_place starts vs) h in
      rw (e, erased_names_none starts v t, order_of_erased vs n)
  order_enabled (v ∷ vs) (suc u) a k h l e =
      let higher = below_is_suc (is_erased (judged starts v)) (free_place starts vs) u h in
      ap (add_last (slot_named starts v)) (order_enabled vs u a k higher (le_of_suc-le-suc l) e)
      ∙ add_last_after_first k (slot_named starts v) (order starts vs)
