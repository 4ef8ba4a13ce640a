-- The boot order after the places of one slot are cleared, lowest first, wholly or in part. Assumes nothing.
use mathlib.Core.Path.{◌≡◌, refl, sym, ap, ◌∙◌, subst}
use mathlib.Core.Bool.{true, false, cond}
use mathlib.Core.Logic.{◌⊎◌, inl, inr}
use mathlib.Core.List.{List, [], ◌∷◌, map}
use Rattle.std.specs.Prelude.{Option, None, Some}
use Prim.Native.Nat.{ℕ, zero, suc, ◌<◌}
use native.Mathlib.Omega.{arith}
use lib.Dec.{eqb}
use borrow.Author.Tests.{eqb-true, ne_eqb}
use lib.ListN.{length, get_or, set}
use Rattle.rules.specs.Lists.{member, without}
use Rattle.rules.specs.Pointers.{all_ones, all_zeros, one_more, slot_at, judged, gives, add_last, order}
use Rattle.rules.proofs.Lists.Tests.{by_cases, clash, or_false}
use Rattle.rules.proofs.Order.Ordering.{slot_named, all_ones_name_none, zeros_name_none, zero_names_none, other_values_name, giving_names, naming_gives, without_appended_same, without_appended_other, member_of_without}

-- ---- which slot starts at a value

some_is : (a b : ℕ) → Some a ≡ Some b → a ≡ b
some_is a b h = cc

none_some : (k : ℕ) → None ≡ Some k → ⊥
none_some k h = let z : ◌≡◌ {A = ℕ} 0 1 = cc in omega arith

abbrev Starting : List ℕ → ℕ → ℕ → Type 0
Starting starts v k = (k < length starts) × (get_or starts k 0 ≡ v)

pub slot_at-some : (starts : List ℕ) (v k : ℕ) → slot_at starts v ≡ Some k → Starting starts v k
unfolding slot_at one_more
slot_at-some [] v k h = absurd (none_some k h)
slot_at-some (a ∷ starts) v k h =
    by_cases (eqb a v)
    (λ t. subst (Starting (a ∷ starts) v) (some_is 0 k (rw t at h)) (omega arith, eqb-true a v t))
    (λ t. later (slot_at starts v) (slot_at-some starts v) (rw t at h))
  where
    later : (o : Option ℕ) → ((j : ℕ) → o ≡ Some j → Starting starts v j) → one_more o ≡ Some k
        → Starting (a ∷ starts) v k
    later None rest e = absurd (none_some k e)
    later (Some j) rest e =
        let (p, q) = rest j refl in
        subst (Starting (a ∷ starts) v) (some_is (suc j) k e) (omega arith, q)

-- a slot that a value names starts at it
pub named_starts : (starts : List ℕ) (v k : ℕ)
    → slot_named starts v ≡ Some k
    → (k < length starts) × (get_or starts k 0 ≡ v)
named_starts starts v k e =
    by_cases (all_ones v)
    (λ t. absurd (none_some k (sym (all_ones_name_none starts v t) ∙ e)))
    (λ t. by_cases (all_zeros v)
    (λ z. absurd (none_some k (sym (zeros_name_none starts v t z) ∙ e)))
    (λ z. slot_at-some starts v k (sym (other_values_name starts v t z) ∙ e)))

-- a value that no slot starts at names none
pub names_none : (starts : List ℕ) (v : ℕ)
    → ((k : ℕ) → k < length starts → get_or starts k 0 ≡ v → ⊥)
    → slot_named starts v ≡ None
names_none starts v h = split (slot_named starts v) refl
  where
    split : (o : Option ℕ) → slot_named starts v ≡ o → o ≡ None
    split None e = refl
    split (Some k) e = let (p, q) = named_starts starts v k e in absurd (h k p q)

-- ---- one place with another value that names the same slot or none

pub order_with_same_name : (starts vs : List ℕ) (u v : ℕ)
    → slot_named starts v ≡ slot_named starts (get_or vs u 0)
    → order starts (set vs u v) ≡ order starts vs
unfolding order
order_with_same_name starts [] u v h = refl
order_with_same_name starts (w ∷ vs) zero v h = rw h
order_with_same_name starts (w ∷ vs) (suc u) v h = rw (order_with_same_name starts vs u v h)

-- ---- the places of one slot cleared, lowest first

pub without_absent : (k : ℕ) (o : List ℕ) → member k o ≡ false → without k o ≡ o
unfolding member without
without_absent k [] h = refl
without_absent k (x ∷ o) h =
    let (p, q) = or_false (eqb k x) (member k o) h in
    rw (p, without_absent k o q)

add_last_other : (k : ℕ) (x : Option ℕ) (o : List ℕ)
    → (x ≡ Some k → ⊥)
    → add_last x (without k o) ≡ without k (add_last x o)
unfolding add_last
add_last_other k None o h = refl
add_last_other k (Some j) o h =
    let n : eqb k j ≡ false = ne_eqb k j (λ e. h (ap {B = Option ℕ} Some (sym e))) in
    by_cases (member j o)
    (λ m. rw (member_of_without k j o n, m))
    (λ m. rw (member_of_without k j o n, m, without_appended_other k j o n))

add_last_same : (k : ℕ) (o : List ℕ) → without k o ≡ without k (add_last (Some k) o)
unfolding add_last
add_last_same k o = by_cases (member k o) (λ m. rw m) (λ m. rw (m, without_appended_same k o))

module _ (starts : List ℕ) (k : ℕ) where
  -- a place before and after: untouched if it does not give the slot, else with a value that names none
  abbrev pub Clearing : ℕ → ℕ → Type 0
  Clearing v w =
      ((gives k (judged starts v) ≡ false) × (w ≡ v))
      ⊎ ((gives k (judged starts v) ≡ true) × (slot_named starts w ≡ None))

  -- some of the lowest places cleared, the others as they were
  abbrev pub Cleared : List ℕ → List ℕ → Type 0
  Cleared [] ws = ws ≡ []
  Cleared (v ∷ vs) ws =
      (ws ≡ v ∷ vs)
      ⊎ ((w : ℕ) × (rest : List ℕ) × (ws ≡ w ∷ rest) × Clearing v w × Cleared vs rest)

  pub none_cleared : (vs : List ℕ) → Cleared vs vs
  none_cleared [] = refl
  none_cleared (v ∷ vs) = inl refl

  names_other : (v : ℕ) → gives k (judged starts v) ≡ false → slot_named starts v ≡ Some k → ⊥
  names_other v f e = clash (gives k (judged starts v)) (naming_gives starts k v e) f

  abbrev OldOrNew : List ℕ → List ℕ → Type 0
  OldOrNew vs ws = (order starts ws ≡ order starts vs) ⊎ (order starts ws ≡ without k (order starts vs))

  order_one_lower : (v w : ℕ) (vs ws : List ℕ) → Clearing v w → OldOrNew vs ws → OldOrNew (v ∷ vs) (w ∷ ws)
  unfolding order add_last
  order_one_lower v w vs ws (inl (f, e)) (inl h) = inl (rw (e, h))
  order_one_lower v w vs ws (inl (f, e)) (inr h) =
      inr (rw (e, h) (add_last_other k (slot_named starts v) (order starts vs) (names_other v f)))
  order_one_lower v w vs ws (inr (t, z)) (inl h) =
      by_cases (member k (order starts vs))
      (λ m. inl (rw (z, giving_names starts k v t, h, m)))
      (λ m. inr (rw (z, giving_names starts k v t, h)
      (sym (without_absent k (order starts vs) m) ∙ add_last_same k (order starts vs))))
  order_one_lower v w vs ws (inr (t, z)) (inr h) =
      inr (rw (z, giving_names starts k v t, h) (add_last_same k (order starts vs)))

  -- the old order, or that without the slot
  pub order_cleared : (vs ws : List ℕ)
      → Cleared vs ws
      → (order starts ws ≡ order starts vs) ⊎ (order starts ws ≡ without k (order starts vs))
  order_cleared [] ws c = inl (ap (order starts) c)
  order_cleared (v ∷ vs) ws (inl e) = inl (ap (order starts) e)
  order_cleared (v ∷ vs) ws (inr (w, rest, e, m, c)) =
      rw e (order_one_lower v w vs rest m (order_cleared vs rest c))

  -- every place of the slot cleared to 0
  pub order_zeroed : (vs : List ℕ)
      → order starts (map (λ v. cond (gives k (judged starts v)) 0 v) vs) ≡ without k (order starts vs)
  unfolding order without add_last
  order_zeroed [] = refl
  order_zeroed (v ∷ vs) =
      by_cases (gives k (judged starts v))
      (λ t. rw (t, zero_names_none starts, giving_names starts k v t, order_zeroed vs) (add_last_same k (order starts vs)))
      (λ t. rw (t, order_zeroed vs)
      (add_last_other k (slot_named starts v) (order starts vs) (names_other v t)))
