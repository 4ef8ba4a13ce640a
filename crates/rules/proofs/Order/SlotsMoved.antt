-- The boot order read through a table with a slot more that no place holds, or without a slot that is not in the order.
-- Assumes nothing.
use mathlib.Core.Path.{◌≡◌, refl, sym, ap, ap₂, ◌∙◌, subst}
use mathlib.Core.Bool.{true, false, ◌||◌}
use mathlib.Core.Logic.{◌⊎◌, inl, inr}
use mathlib.Core.List.{List, [], ◌∷◌, ◌++◌, map}
use Rattle.std.specs.Prelude.{Option, None, Some}
use Prim.Native.Nat.{ℕ, zero, suc, ◌<◌}
use native.Mathlib.Nat.{le_of_suc-le-suc, not-suc-le-zero}
use native.Mathlib.Omega.{arith}
use lib.Dec.{eqb, ltb}
use borrow.Author.Tests.{eqb-true, eqb-false, eq-eqb, ne_eqb, ltb-true, ltb-false, lt-ltb, le-ltb}
use lib.ListN.{length}
use Rattle.rules.specs.Lists.{member}
use Rattle.rules.specs.Pointers.{all_ones, all_zeros, one_more, slot_at, add_last, order}
use Rattle.rules.specs.Book.{lowered}
use Rattle.rules.proofs.Lists.Tests.{by_cases, clash, or_false}
use Rattle.rules.proofs.Lists.OneMore.{left_out}
use Rattle.rules.proofs.Order.Ordering.{slot_named, all_ones_name_none, zeros_name_none, other_values_name}

none_some : (k : ℕ) → ◌≡◌ {A = Option ℕ} None (Some k) → ⊥
none_some k q = let z : ◌≡◌ {A = ℕ} 0 1 = cc in omega arith

some-some : (j k : ℕ) → ◌≡◌ {A = Option ℕ} (Some j) (Some k) → j ≡ k
some-some j k q = cc

-- ---- a slot more

slot_at_added : (xs : List ℕ) (a v : ℕ) → eqb a v ≡ false → slot_at (xs ++ (a ∷ [])) v ≡ slot_at xs v
unfolding slot_at one_more
slot_at_added [] a v h = rw h
slot_at_added (x ∷ xs) a v h = rw (slot_at_added xs a v h)

-- a value names no slot, whatever the starts, or the slot that starts there
names_none_or_there : (v : ℕ)
    → ((xs : List ℕ) → slot_named xs v ≡ None) ⊎ ((xs : List ℕ) → slot_named xs v ≡ slot_at xs v)
names_none_or_there v =
    by_cases (all_ones v)
    (λ t. inl (λ xs. all_ones_name_none xs v t))
    (λ f. by_cases (all_zeros v)
    (λ z. inl (λ xs. zeros_name_none xs v f z))
    (λ z. inr (λ xs. other_values_name xs v f z)))

-- two lists of starts name the same slot with a value
named_alike : (xs ys : List ℕ) (v : ℕ) → slot_at ys v ≡ slot_at xs v → slot_named ys v ≡ slot_named xs v
named_alike xs ys v e = of (names_none_or_there v)
  where
    of : ((xs : List ℕ) → slot_named xs v ≡ None) ⊎ ((xs : List ℕ) → slot_named xs v ≡ slot_at xs v)
        → slot_named ys v ≡ slot_named xs v
    of (inl none_named) = none_named ys ∙ sym (none_named xs)
    of (inr there) = there ys ∙ e ∙ sym (there xs)

pub order_with_more : (xs vs : List ℕ) (a : ℕ) → member a vs ≡ false → order (xs ++ (a ∷ [])) vs ≡ order xs vs
unfolding order member
order_with_more xs [] a h = refl
order_with_more xs (v ∷ vs) a h =
    let (p, q) = or_false (eqb a v) (member a vs) h in
    ap₂ add_last (named_alike xs (xs ++ (a ∷ [])) v (slot_at_added xs a v p)) (order_with_more xs vs a q)

-- ---- numbers lowered

lowered-suc : (k j : ℕ) → lowered (suc k) (suc j) ≡ suc (lowered k j)
unfolding lowered
lowered-suc k j =
    by_cases (ltb k j)
    (λ t. rw (t, lt-ltb (suc k) (suc j) (omega (arith, ltb-true k j t))) (omega (arith, ltb-true k j t)))
    (λ t. rw (t, le-ltb (suc k) (suc j) (omega (arith, ltb-false k j t))))

lowered_apart : (k i j : ℕ) → (i ≡ k → ⊥) → (j ≡ k → ⊥) → lowered k i ≡ lowered k j → i ≡ j
unfolding lowered
lowered_apart k i j a b e =
    by_cases (ltb k i)
    (λ t. by_cases (ltb k j)
    (λ u. omega (arith, rw (t, u) at e, ltb-true k i t, ltb-true k j u))
    (λ u. absurd (b (omega (arith, rw (t, u) at e, ltb-true k i t, ltb-false k j u)))))
    (λ t. by_cases (ltb k j)
    (λ u. absurd (a (omega (arith, rw (t, u) at e, ltb-false k i t, ltb-true k j u))))
    (λ u. rw (t, u) at e))

member-lowered : (k j : ℕ) (o : List ℕ)
    → (j ≡ k → ⊥)
    → member k o ≡ false
    → member (lowered k j) (map (lowered k) o) ≡ member j o
unfolding member
member-lowered k j [] n h = refl
member-lowered k j (x ∷ o) n h =
    let (q, r) = or_false (eqb k x) (member k o) h in
    let here : eqb (lowered k j) (lowered k x) ≡ eqb j x =
    by_cases (eqb j x)
    (λ t. rw t (eq-eqb (lowered k j) (lowered k x) (ap (lowered k) (eqb-true j x t))))
    (λ t. rw t (ne_eqb (lowered k j) (lowered k x)
    (λ e. eqb-false j x t (lowered_apart k j x n (λ z. eqb-false k x q (sym z)) e)))) in
    ap₂ (λ u v. u || v) here (member-lowered k j o n r)

map_append_one : (f : ℕ → ℕ) (o : List ℕ) (j : ℕ) → map f (o ++ (j ∷ [])) ≡ map f o ++ (f j ∷ [])
map_append_one f [] j = refl
map_append_one f (x ∷ o) j = ap {B = List ℕ} (λ r. f x ∷ r) (map_append_one f o j)

absent_before_last : (k j : ℕ) (o : List ℕ)
    → member k (o ++ (j ∷ [])) ≡ false
    → (member k o ≡ false) × (eqb k j ≡ false)
unfolding member
absent_before_last k j [] h = (refl, (or_false (eqb k j) false h).0)
absent_before_last k j (x ∷ o) h =
    let (p, q) = or_false (eqb k x) (member k (o ++ (j ∷ []))) h in
    let (r, s) = absent_before_last k j o q in
    (rw (p, r), s)

-- ---- a slot less

abbrev slot_lowered : ℕ → Option ℕ → Option ℕ
slot_lowered k None = None
slot_lowered k (Some j) = Some (lowered k j)

slot_at_without : (xs : List ℕ) (k v : ℕ)
    → (slot_at xs v ≡ Some k → ⊥)
    → k < length xs
    → slot_at (left_out k xs) v ≡ slot_lowered k (slot_at xs v)
unfolding slot_at one_more
slot_at_without [] k v h l = absurd (not-suc-le-zero l)
slot_at_without (x ∷ xs) zero v h l =
    by_cases (eqb x v) (λ t. absurd (h (rw t))) (λ t. rw t (shifted (slot_at xs v)))
  where
    shifted : (o : Option ℕ) → o ≡ slot_lowered 0 (one_more o)
    shifted None = refl
    shifted (Some j) =
        ap {B = Option ℕ} Some (sym (unfold lowered in rw (lt-ltb 0 (suc j) (omega arith)) (omega arith)))
slot_at_without (x ∷ xs) (suc k) v h l =
    by_cases (eqb x v)
    (λ t. rw t (ap {B = Option ℕ} Some (sym (unfold lowered in rw (le-ltb (suc k) 0 (omega arith))))))
    (λ t. rw (t, slot_at_without xs k v (λ e. h (rw (t, e))) (le_of_suc-le-suc l)) (deeper (slot_at xs v)))
  where
    deeper : (o : Option ℕ) → one_more (slot_lowered k o) ≡ slot_lowered (suc k) (one_more o)
    deeper None = refl
    deeper (Some j) = ap {B = Option ℕ} Some (sym (lowered-suc k j))

slot_named_without : (xs : List ℕ) (k v : ℕ)
    → (slot_named xs v ≡ Some k → ⊥)
    → k < length xs
    → slot_named (left_out k xs) v ≡ slot_lowered k (slot_named xs v)
slot_named_without xs k v h l = of (names_none_or_there v)
  where
    of : ((xs : List ℕ) → slot_named xs v ≡ None) ⊎ ((xs : List ℕ) → slot_named xs v ≡ slot_at xs v)
        → slot_named (left_out k xs) v ≡ slot_lowered k (slot_named xs v)
    of (inl none_named) = none_named (left_out k xs) ∙ sym (ap (slot_lowered k) (none_named xs))
    of (inr there) =
        there (left_out k xs) ∙ slot_at_without xs k v (λ e. h (there xs ∙ e)) l ∙ sym (ap (slot_lowered k) (there xs))

-- a lower place comes after the others, in the order with the numbers lowered too
add_last-lowered : (k : ℕ) (x : Option ℕ) (o : List ℕ)
    → member k (add_last x o) ≡ false
    → (member k o ≡ false) × ((x ≡ Some k → ⊥) × (add_last (slot_lowered k x) (map (lowered k) o) ≡ map (lowered k) (add_last x o)))
unfolding add_last
add_last-lowered k None o h = (h, (none_some k, refl))
add_last-lowered k (Some j) o h =
    by_cases (member j o)
    (λ t. let absent : member k o ≡ false = rw t at h in
    let other : j ≡ k → ⊥ = λ q. clash (member k o) (subst (λ (z : ℕ). member z o ≡ true) q t) absent in
    (absent, ((λ q. other (some-some j k q)), rw (member-lowered k j o other absent, t))))
    (λ t. let (absent, ne) = absent_before_last k j o (rw t at h) in
    let other : j ≡ k → ⊥ = λ q. eqb-false k j ne (sym q) in (
      absent,
      (
        (λ q. other (some-some j k q)),
        rw (member-lowered k j o other absent, t) (sym (map_append_one (lowered k) o j)),
      ),
    ))

pub order_without_slot : (xs vs : List ℕ) (k : ℕ)
    → k < length xs
    → member k (order xs vs) ≡ false
    → order (left_out k xs) vs ≡ map (lowered k) (order xs vs)
unfolding order
order_without_slot xs [] k l h = refl
order_without_slot xs (v ∷ vs) k l h =
    let (absent, (other, e)) = add_last-lowered k (slot_named xs v) (order xs vs) h in
    ap₂ add_last (slot_named_without xs k v other l) (order_without_slot xs vs k l absent) ∙ e
