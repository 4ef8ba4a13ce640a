-- The places of a pointer block, walked down for the slot that comes first, and up for the places that give a slot.
-- Assumes nothing.
use mathlib.Core.Path.{◌≡◌, refl, sym, ap, ◌∙◌}
use mathlib.Core.Bool.{Bool, true, false, cond, ◌||◌}
use mathlib.Core.List.{List, [], ◌∷◌, ◌++◌, append-nil}
use Rattle.std.specs.Prelude.{Option, None, Some}
use Prim.Native.Nat.{ℕ, zero, suc, ◌+◌, ◌-◌, ◌≤◌, ◌<◌}
use native.Mathlib.Nat.{le_refl, add-zero, zero-add}
use native.Mathlib.Omega.{arith}
use lib.Dec.{eqb, ltb}
use borrow.Author.Tests.{eqb-true, lt-ltb}
use lib.ListN.{length, get_or, take, drop, take-append-drop}
use lib.Seq.{length-take-le, take-add}
use Rattle.rules.specs.Lists.{member, all}
use Rattle.rules.specs.Pointers.{place_count, places, all_ones, judged, slot_given, gives, add_last, order}
use Rattle.rules.specs.Commands.{is_first, giving}
use Rattle.rules.specs.declared.SlotNo.{SlotNo}
use Rattle.rules.specs.declared.Place.{Place}
use Rattle.rules.specs.declared.Place.TheVariants.{Erased, Spent, Live, PartWritten, Stray}
use Rattle.rules.proofs.Lists.Tests.{by_cases, and_true}
use Rattle.rules.proofs.Order.Ordering.{giving_names}
use Rattle.rules.proofs.Order.Clearing.{named_starts}
use Rattle.places.specs.Inner.Values.{place_value}
use Rattle.places.proofs.Values.{place_turn, place_down}
pub use Rattle.places.proofs.Values.{length_places}
use Rattle.place_walks.proofs.Free.{FreeFrom}
use Rattle.boot_order.proofs.BootOrder.{member_last}
use Rattle.walks.proofs.Joined.{or_with_false}
use Rattle.blocks.proofs.Noting.{Below}

-- ---- the slot that comes first, from the last place down

add_head : (x : Option ℕ) (k : ℕ) (o : List ℕ) → (r : List ℕ) × (add_last x (k ∷ o) ≡ k ∷ r)
unfolding add_last
add_head None k o = (o, refl)
add_head (Some j) k o = by_cases (member j (k ∷ o)) (λ t. (o, rw t)) (λ t. (o ++ (j ∷ []), rw t))

order_head : (starts vs : List ℕ) (i k : ℕ) (o : List ℕ) → order starts (drop i vs) ≡ k ∷ o
    → (r : List ℕ) × (order starts vs ≡ k ∷ r)
unfolding order
order_head starts vs zero k o h = (o, h)
order_head starts [] (suc i) k o h = (o, h)
order_head starts (v ∷ vs) (suc i) k o h =
    let (r, e) = order_head starts vs i k o h in
    let (q, f) = add_head (slot_given (judged starts v)) k r in
    (q, ap (add_last (slot_given (judged starts v))) e ∙ f)

not_live_gives_none : (j : Place) → ((s : SlotNo) → j ≡ Live s → ⊥) → slot_given j ≡ None
unfolding slot_given
not_live_gives_none Erased t = refl
not_live_gives_none Spent t = refl
not_live_gives_none (Live s) t = absurd (t s refl)
not_live_gives_none PartWritten t = refl
not_live_gives_none (Stray v) t = refl

module _ (starts p : List ℕ) (k : ℕ) (some : 0 < k) (within : k ≤ place_count p) (above : order starts (drop k (places p))
    ≡ []) where
  pub first_goes : ((s : SlotNo) → judged starts (place_value p (k - 1)) ≡ Live s → ⊥)
      → order starts (drop (k - 1) (places p)) ≡ []
  unfolding order add_last
  first_goes t =
      rw (place_down p k some within, not_live_gives_none (judged starts (place_value p (k - 1))) t) above

  pub first_found : (s r : SlotNo) → judged starts (place_value p (k - 1)) ≡ Live r
      → is_first s.0 (order starts (places p)) ≡ eqb s.0 r.0
  unfolding is_first order slot_given add_last member
  first_found s r e =
      let here : order starts (drop (k - 1) (places p)) ≡ r.0 ∷ [] = rw (place_down p k some within, e, above) in
      rw ((order_head starts (places p) (k - 1) r.0 [] here).1)

-- ---- the places that give a slot, from place 0 up

-- a place that gives a slot has its start
gives_start : (starts : List ℕ) (k v : ℕ) → gives k (judged starts v) ≡ true → v ≡ get_or starts k 0
gives_start starts k v h = sym (named_starts starts v k (giving_names starts k v h)).1

pub other_value : (starts : List ℕ) (k v start : ℕ) → start ≡ get_or starts k 0 → (v ≡ start → ⊥)
    → gives k (judged starts v) ≡ false
other_value starts k v start e other =
    by_cases (gives k (judged starts v)) (λ t. absurd (other (gives_start starts k v t ∙ sym e))) (λ t. t)

-- nor does an erased one
none_give : (starts : List ℕ) (k i : ℕ) (vs : List ℕ) → all all_ones vs ≡ true → giving starts k i vs ≡ []
unfolding all giving judged gives
none_give starts k i [] h = refl
none_give starts k i (v ∷ vs) h =
    let (one, more) = and_true (all_ones v) (all all_ones vs) h in
    rw (one, none_give starts k (suc i) vs more)

-- places after others
giving_append : (starts : List ℕ) (k i : ℕ) (vs ws : List ℕ)
    → giving starts k i (vs ++ ws) ≡ giving starts k i vs ++ giving starts k (i + length vs) ws
unfolding giving
giving_append starts k i [] ws = rw (add-zero i)
giving_append starts k i (v ∷ vs) ws =
    let one_more : suc i + length vs ≡ i + suc (length vs) = omega arith in
    by_cases (gives k (judged starts v))
    (λ t. rw (t, giving_append starts k (suc i) vs ws, one_more))
    (λ t. rw (t, giving_append starts k (suc i) vs ws, one_more))

-- no more of them than there are places, and each is the number of one
pub giving_few : (starts : List ℕ) (k i : ℕ) (vs : List ℕ) → length (giving starts k i vs) ≤ length vs
unfolding giving
giving_few starts k i [] = le_refl 0
giving_few starts k i (v ∷ vs) =
    by_cases (gives k (judged starts v))
    (λ t. rw t (omega (arith, giving_few starts k (suc i) vs)))
    (λ t. rw t (omega (arith, giving_few starts k (suc i) vs)))

pub giving_below : (starts : List ℕ) (k i : ℕ) (vs : List ℕ) (bound : ℕ) → i + length vs ≤ bound
    → Below bound (giving starts k i vs)
unfolding giving
giving_below starts k i [] bound h = tt
giving_below starts k i (v ∷ vs) bound h =
    by_cases (gives k (judged starts v))
    (λ t. rw t (omega arith, giving_below starts k (suc i) vs bound (omega arith)))
    (λ t. rw t (giving_below starts k (suc i) vs bound (omega arith)))

module _ (starts : List ℕ) (s : ℕ) (p : List ℕ) (k : ℕ) where
  -- the places below one more
  taken_more : k < place_count p
      → giving starts s 0 (take (k + 1) (places p))
      ≡ giving starts s 0 (take k (places p)) ++ giving starts s k (place_value p k ∷ [])
  taken_more within =
      let below : length (take k (places p)) ≡ k = length-take-le k (places p) (omega (arith, length_places p)) in
      rw (take-add k 1 (places p), place_turn p k within)
      (giving_append starts s 0 (take k (places p)) (place_value p k ∷ []) ∙ rw (below, zero-add))

  pub giving_goes : k < place_count p → gives s (judged starts (place_value p k)) ≡ false
      → giving starts s 0 (take (k + 1) (places p)) ≡ giving starts s 0 (take k (places p))
  unfolding giving
  giving_goes within t = taken_more within ∙ rw t (append-nil (giving starts s 0 (take k (places p))))

  pub giving_here : k < place_count p → gives s (judged starts (place_value p k)) ≡ true
      → giving starts s 0 (take (k + 1) (places p)) ≡ giving starts s 0 (take k (places p)) ++ (k ∷ [])
  unfolding giving
  giving_here within t = taken_more within ∙ rw t

  pub giving_over : FreeFrom p k → giving starts s 0 (take k (places p)) ≡ giving starts s 0 (places p)
  giving_over free =
      let front = take k (places p) in
      let behind = drop k (places p) in
      sym (ap (giving starts s 0) (sym (take-append-drop k (places p)))
      ∙ giving_append starts s 0 front behind
      ∙ rw (none_give starts s (0 + length front) behind free.erased) (append-nil (giving starts s 0 front)))

-- ---- a slot in the order

or_with_true : (t : Bool) → t || true ≡ true
or_with_true true = refl
or_with_true false = refl

-- a slot is in the order exactly if a place gives it
pub in_order : (starts : List ℕ) (k i : ℕ) (vs : List ℕ)
    → member k (order starts vs) ≡ ltb 0 (length (giving starts k i vs))
unfolding order giving member
in_order starts k i [] = refl
in_order starts k i (v ∷ vs) = by (judged starts v) (in_order starts k (suc i) vs)
  where
    by : (j : Place) → member k (order starts vs) ≡ ltb 0 (length (giving starts k (suc i) vs))
        → member k (add_last (slot_given j) (order starts vs))
        ≡ ltb 0 (length (cond (gives k j) (i ∷ giving starts k (suc i) vs) (giving starts k (suc i) vs)))
    by Erased ih = unfold slot_given add_last gives in ih
    by Spent ih = unfold slot_given add_last gives in ih
    by PartWritten ih = unfold slot_given add_last gives in ih
    by (Stray v) ih = unfold slot_given add_last gives in ih
    by (Live s) ih =
        unfold slot_given add_last gives in
        by_cases (eqb k s.0)
        (λ t.
        let some_give = lt-ltb 0 (suc (length (giving starts k (suc i) vs))) (omega arith) in
        by_cases (member s.0 (order starts vs))
        (λ m. rw (t, m) (rw (eqb-true k s.0 t) m ∙ sym some_give))
        (λ m. rw (t, m, member_last, t, or_with_true) (sym some_give)))
        (λ t.
        by_cases (member s.0 (order starts vs))
        (λ m. rw (t, m) ih)
        (λ m. rw (t, m, member_last, t, or_with_false) ih))
