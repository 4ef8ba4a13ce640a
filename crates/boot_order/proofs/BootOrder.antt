-- The boot order by place number, without a store of the slots met: a slot was met before exactly if a higher place
-- has the same value. Assumes nothing.
use mathlib.Core.Path.{◌≡◌, refl, sym, ap, ◌∙◌}
use mathlib.Core.Bool.{true, false, ◌||◌}
use mathlib.Core.List.{List, [], ◌∷◌, ◌++◌}
use Prim.Native.Nat.{ℕ, zero, suc, ◌+◌, ◌-◌, ◌≤◌, ◌<◌}
use native.Mathlib.Omega.{arith}
use lib.Dec.{eqb}
use borrow.Author.Tests.{eqb-true, eqb-false, eq-eqb, ne_eqb}
use lib.ListN.{length, get_or, drop, set, length-append, length-map}
use lib.Seq.{drop-cons, set_at, append_snoc}
use Rattle.rules.specs.Lists.{member}
use Rattle.rules.specs.Table.{Entry, entries, slots, slot_starts, starts}
use Rattle.rules.specs.Copies.{order_by}
use Rattle.rules.specs.Pointers.{place_count, places, judged, slot_given, add_last, order}
use Rattle.rules.specs.declared.SlotNo.{SlotNo}
use Rattle.rules.specs.declared.Place.{Place}
use Rattle.rules.specs.declared.Place.TheVariants.{Erased, Spent, Live, PartWritten, Stray}
use Rattle.rules.proofs.Lists.Tests.{by_cases}
use Rattle.rules.proofs.Order.Clearing.{named_starts}
use Rattle.rules.proofs.Order.OnceEach.{once_order, once_length}
use Rattle.walks.proofs.Joined.{or_assoc, or_with_false}
use Rattle.places.specs.Inner.Values.{place_value}
use Rattle.std.specs.Prelude.{Option, None, Some}
use Rattle.place_walks.specs.Inner.Added.{added, added_at, then}
use Rattle.places.proofs.Values.{place_down}
use Rattle.places.specs.Inner.FreePlace.{free_from}
use Rattle.place_walks.proofs.Free.{free_places, none_above}

-- a live place has its slot's start as its value
pub live_start : (starts : List ℕ) (v : ℕ) (s : SlotNo) → judged starts v ≡ Live s → get_or starts s.0 0 ≡ v
unfolding slot_given
live_start starts v s h = (named_starts starts v s.0 (ap slot_given h)).1

-- ---- met before

pub member_last : (k j : ℕ) (o : List ℕ) → member k (o ++ (j ∷ [])) ≡ member k o || eqb k j
unfolding member
member_last k j [] = or_with_false (eqb k j)
member_last k j (x ∷ o) = rw (member_last k j o, or_assoc)

-- a slot is in the order exactly if a place has its start
pub met : (starts vs : List ℕ) (v : ℕ) (s : SlotNo) → judged starts v ≡ Live s
    → member s.0 (order starts vs) ≡ member v vs
unfolding member order add_last slot_given
met starts [] v s h = refl
met starts (w ∷ vs) v s h =
    by_cases (eqb v w) (λ t. here t) (λ t. above t (met starts vs v s h) (judged starts w) refl)
  where
    here : eqb v w ≡ true → member s.0 (order starts (w ∷ vs)) ≡ member v (w ∷ vs)
    here t =
        by_cases (member s.0 (order starts vs))
        (λ m. rw (t, ← eqb-true v w t, h, m) m)
        (λ m. rw (t, ← eqb-true v w t, h, m, member_last, m, eq-eqb s.0 s.0 refl))

    above : eqb v w ≡ false → member s.0 (order starts vs) ≡ member v vs
        → (j : Place) → judged starts w ≡ j → member s.0 (order starts (w ∷ vs)) ≡ member v (w ∷ vs)
    above t ih Erased e = rw (t, e) ih
    above t ih Spent e = rw (t, e) ih
    above t ih PartWritten e = rw (t, e) ih
    above t ih (Stray x) e = rw (t, e) ih
    above t ih (Live r) e =
        let other : s.0 ≡ r.0 → ⊥ =
        λ q. eqb-false v w t
        (sym (live_start starts v s h) ∙ ap (λ (k : ℕ). get_or starts k 0) q ∙ live_start starts w r e) in
        by_cases (member r.0 (order starts vs))
        (λ m. rw (t, e, m) ih)
        (λ m. rw (t, e, m, member_last, ne_eqb s.0 r.0 other, or_with_false) ih)

-- ---- one place more

pub order-then : (starts vs : List ℕ) (v : ℕ)
    → order starts (v ∷ vs) ≡ then (order starts vs) (added (judged starts v) (member v vs))
unfolding order add_last slot_given then added
order-then starts vs v = by (judged starts v) refl
  where
    by : (j : Place) → judged starts v ≡ j
        → order starts (v ∷ vs) ≡ then (order starts vs) (added (judged starts v) (member v vs))
    by Erased e = rw e
    by Spent e = rw e
    by PartWritten e = rw e
    by (Stray x) e = rw e
    by (Live s) e = by_cases (member v vs) (λ m. rw (e, met starts vs v s e, m)) (λ m. rw (e, met starts vs v s e, m))

then_grows : (o : List ℕ) (a : Option SlotNo) → length o ≤ length (then o a)
unfolding then
then_grows o None = omega arith
then_grows o (Some s) = omega (arith, length-append o (s.0 ∷ []))

-- the order grows from place to place
pub order_grows : (starts vs : List ℕ) (k : ℕ) → length (order starts (drop k vs)) ≤ length (order starts vs)
order_grows starts vs zero = omega arith
order_grows starts [] (suc k) = omega arith
order_grows starts (v ∷ vs) (suc k) =
    rw order-then
    (omega (arith, order_grows starts vs k, then_grows (order starts vs) (added (judged starts v) (member v vs))))

-- a row with an order in front of it
abbrev pub in_front : List ℕ → List ℕ → List ℕ
in_front o row = o ++ drop (length o) row

-- ---- from the free place down

-- a walk down to place k has met so many slots
pub record MetFrom (starts p : List ℕ) (k met : ℕ) : Type 0 where
  pub within : k ≤ place_count p
  pub room : met + k ≤ place_count p
  pub count : met ≡ length (order starts (drop k (places p)))

pub none_met : (starts p : List ℕ) (end : ℕ) → end ≡ free_from p → MetFrom starts p end 0
none_met starts p end e =
    let free = free_places p in
    rw e (record {
      within = free.within;
      room = omega (arith, free.within);
      count = sym (ap length (none_above starts p (free_from p) free));
    })

pub none_before : (starts p row : List ℕ) (end : ℕ) → end ≡ free_from p
    → row ≡ in_front (order starts (drop end (places p))) row
none_before starts p row end e = rw (e, none_above starts p (free_from p) (free_places p))

-- one turn of a walk from place k down to place k - 1
module _ (starts p : List ℕ) (k : ℕ) (above : 0 < k) (within : k ≤ place_count p) where
  pub order_down : order starts (drop (k - 1) (places p))
      ≡ then (order starts (drop k (places p))) (added_at starts p (k - 1))
  unfolding added_at
  order_down =
      let e : k - 1 + 1 ≡ k = omega arith in
      rw (place_down p k above within, e) (order-then starts (drop k (places p)) (place_value p (k - 1)))

module _ (starts p : List ℕ) (k met : ℕ) (above : 0 < k) (m : MetFrom starts p k met) where
  module _ (adds : added_at starts p (k - 1) ≡ None) where
    pub same_order : order starts (drop (k - 1) (places p)) ≡ order starts (drop k (places p))
    unfolding then
    same_order = order_down starts p k above m.within ∙ rw adds

    pub none_more : MetFrom starts p (k - 1) met
    none_more = record {
      within = omega (arith, m.within);
      room = omega (arith, m.room);
      count = m.count ∙ sym (ap length same_order);
    }

  module _ (s : SlotNo) (adds : added_at starts p (k - 1) ≡ Some s) where
    more_order : order starts (drop (k - 1) (places p)) ≡ order starts (drop k (places p)) ++ (s.0 ∷ [])
    unfolding then
    more_order = order_down starts p k above m.within ∙ rw adds

    pub one_more : MetFrom starts p (k - 1) (met + 1)
    one_more = record {
      within = omega (arith, m.within);
      room = omega (arith, m.room);
      count = omega (arith, m.count, ap length more_order, length-append (order starts (drop k (places p))) (s.0 ∷ []));
    }

    pub room_left : met < length (order starts (places p))
    room_left = omega (arith, one_more.count, order_grows starts (places p) (k - 1))

    -- a row with an order in front of it, and one slot more
    pub row_more : (row : List ℕ) → met < length row
        → set (in_front (order starts (drop k (places p))) row) met s.0
        ≡ in_front (order starts (drop (k - 1) (places p))) row
    row_more row h =
        let o = order starts (drop k (places p)) in
        let n : length (o ++ (s.0 ∷ [])) ≡ suc met = omega (arith, length-append o (s.0 ∷ []), m.count) in
        rw (
          more_order,
          n,
          ← m.count,
          drop-cons row met 0 h,
          set_at o (get_or row met 0) (drop (suc met) row) s.0 met (sym m.count),
          append_snoc,
        )

-- ---- all slots met

length_starts : (es : List Entry) → length (slot_starts es) ≡ length (slots es)
unfolding slot_starts
length_starts es = length-map (slots es) (λ (e : Entry). e.start)

-- each slot is met once
order_within : (starts vs : List ℕ) → length (order starts vs) ≤ length starts
order_within starts vs = once_length (length starts) (order starts vs) (once_order starts vs)

-- no more slots are met than there are
pub order_fits : (es : List Entry) (vs : List ℕ) → length (order (slot_starts es) vs) ≤ length (slots es)
order_fits es vs = omega (arith, order_within (slot_starts es) vs, length_starts es)

pub order_by_fits : (t p : List ℕ) → length (order_by t p) ≤ length (slots (entries t))
unfolding order_by starts
order_by_fits t p = order_fits (entries t) (places p)

-- an order that is full stays
then_full : (o : List ℕ) (a : Option SlotNo) (most : ℕ) → length (then o a) ≤ most → most ≤ length o → then o a ≡ o
unfolding then
then_full o None most h full = refl
then_full o (Some s) most h full = absurd (omega (arith, length-append o (s.0 ∷ [])))

order_full : (starts vs : List ℕ) (k : ℕ) → length starts ≤ length (order starts (drop k vs))
    → order starts vs ≡ order starts (drop k vs)
order_full starts vs zero full = refl
order_full starts [] (suc k) full = refl
order_full starts (v ∷ vs) (suc k) full =
    let ih = order_full starts vs k full in
    let more = order-then starts vs v in
    let most = rw more at (order_within starts (v ∷ vs)) in
    more
    ∙ then_full (order starts vs) (added (judged starts v) (member v vs)) (length starts) most (rw ih full)
    ∙ ih

-- where a walk has met them all, or all places, it has met the whole order
module _ (t p : List ℕ) (k met : ℕ) (m : MetFrom (starts t) p k met) where
  pub all_met : met ≡ length (slots (entries t)) → order (starts t) (drop k (places p)) ≡ order_by t p
  unfolding order_by starts
  all_met e =
      sym (order_full (starts t) (places p) k (omega (arith, m.count, length_starts (entries t))))

  pub all_walked : k ≡ 0 → order (starts t) (drop k (places p)) ≡ order_by t p
  unfolding order_by
  all_walked e = rw e

  pub counted_met : met ≡ length (slots (entries t)) → met ≡ length (order_by t p)
  counted_met e = m.count ∙ ap length (all_met e)

  pub counted_walked : k ≡ 0 → met ≡ length (order_by t p)
  counted_walked e = m.count ∙ ap length (all_walked e)
