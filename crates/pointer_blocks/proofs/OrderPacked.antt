-- The pointers of an order without a slot, put one by one from the order's end. Assumes nothing.
use mathlib.Core.Path.{◌≡◌, refl, sym, ap, ◌∙◌}
use mathlib.Core.List.{List, [], ◌∷◌, ◌++◌, map, reverse, reverse-cons, map-append}
use Prim.Native.Nat.{ℕ, suc, ◌-◌, ◌≤◌, ◌<◌}
use native.Mathlib.Omega.{arith}
use mathlib.Core.Bool.{true}
use lib.Dec.{leb, ltb}
use borrow.Author.Tests.{eq-eqb, ne_eqb, le-leb, leb-true}
use lib.ListN.{length, get_or, take, drop, length-map}
use lib.Seq.{drop-cons, drop-length, take-append_seam}
use Rattle.std.proofs.lemmas.List.{drop_all}
use Rattle.rules.specs.Lists.{without}
use Rattle.rules.specs.Table.{entries, slots, slot_starts, starts}
use Rattle.rules.specs.Pointers.{place_count, places, order}
use Rattle.rules.specs.Copies.{order_by}
use Rattle.rules.specs.Commands.{pointers_of, enough_places}
use Rattle.rules.proofs.Pointers.Filling.{length-pointers_of}
use Rattle.places.proofs.Values.{length_places}
use Rattle.rules.proofs.Order.OnceEach.{once_order, once_first, once_length, order-length}
use Rattle.slots.proofs.RowsOf.{few_slots}
use Rattle.boot_order.proofs.BootOrder.{order_by_fits}

-- ---- one pointer more

pub pointers_first : (k : ℕ) (starts o : List ℕ)
    → pointers_of starts (k ∷ o) ≡ pointers_of starts o ++ (get_or starts k 0 ∷ [])
unfolding pointers_of
pointers_first k starts o =
    ap (map (λ j. get_or starts j 0)) (reverse-cons k o) ∙ map-append (λ j. get_or starts j 0) (reverse o) (k ∷ [])

-- the pointers put once a walk has come down to place i of an order
abbrev pub put_from : ℕ → List ℕ → List ℕ → ℕ → List ℕ
put_from k starts o i = pointers_of starts (without k (drop i o))

pub none_put : (k : ℕ) (starts o : List ℕ) → put_from k starts o (length o) ≡ []
unfolding pointers_of without
none_put k starts o = rw (drop-length o)

-- one turn of that walk, down to place i - 1
module _ (k : ℕ) (starts o : List ℕ) (i : ℕ) (above : 0 < i) (within : i ≤ length o) where
  next_of_order : drop (i - 1) o ≡ get_or o (i - 1) 0 ∷ drop i o
  next_of_order =
      let e : suc (i - 1) ≡ i = omega arith in
      drop-cons o (i - 1) 0 (omega arith) ∙ ap (λ (m : ℕ). get_or o (i - 1) 0 ∷ drop m o) e

  pub left_out_turn : get_or o (i - 1) 0 ≡ k → put_from k starts o (i - 1) ≡ put_from k starts o i
  unfolding without
  left_out_turn e = rw (next_of_order, e, eq-eqb k k refl)

  pub put_turn : (get_or o (i - 1) 0 ≡ k → ⊥)
      → put_from k starts o (i - 1) ≡ put_from k starts o i ++ (get_or starts (get_or o (i - 1) 0) 0 ∷ [])
  unfolding without
  put_turn other =
      rw (next_of_order, ne_eqb k (get_or o (i - 1) 0) (λ e. other (sym e)))
      (pointers_first (get_or o (i - 1) 0) starts (without k (drop i o)))

-- ---- how many slots of an order are not one

module _ (k : ℕ) (o : List ℕ) where
  pub none_left : (i : ℕ) → length o ≤ i → length (without k (drop i o)) ≡ 0
  unfolding without
  none_left i past = rw (drop_all i o past)

  module _ (i : ℕ) (within : i < length o) where
    pub other_left : (get_or o i 0 ≡ k → ⊥) → length (without k (drop i o)) ≡ suc (length (without k (drop (suc i) o)))
    unfolding without
    other_left other = rw (drop-cons o i 0 within, ne_eqb k (get_or o i 0) (λ e. other (sym e)))

    pub same_left : get_or o i 0 ≡ k → length (without k (drop i o)) ≡ length (without k (drop (suc i) o))
    unfolding without
    same_left e = rw (drop-cons o i 0 within, e, eq-eqb k k refl)

-- ---- how many slots the boot order has

module _ (t p : List ℕ) where
  same_length : length (starts t) ≡ length (slots (entries t))
  unfolding starts slot_starts
  same_length = simp length-map

  pub order_in_entries : length (order_by t p) ≤ length (entries t)
  order_in_entries = omega (arith, order_by_fits t p, few_slots (entries t))

  pub order_in_places : length (order_by t p) ≤ place_count p
  unfolding order_by
  order_in_places = omega (arith, order-length (starts t) (places p), length_places p)

  module _ (k : ℕ) where
    -- there is room for a slot in front
    pub enough_by_entries : k < length (slots (entries t)) → length (entries t) ≤ place_count p
        → enough_places (starts t) p k ≡ true
    unfolding enough_places
    enough_by_entries there few =
        let o = without k (order (starts t) (places p)) in
        let most = once_length (length (starts t)) (k ∷ o)
        (once_first (length (starts t)) k (order (starts t) (places p)) (omega (arith, same_length))
        (once_order (starts t) (places p))) in
        le-leb (length (k ∷ o)) (place_count p) (omega (arith, most, same_length, few_slots (entries t)))

    module _ (n : ℕ) (counted : n ≡ length (pointers_of (starts t) (without k (order_by t p)))) where
      others_counted : suc n ≡ length (k ∷ without k (order (starts t) (places p)))
      unfolding order_by
      others_counted =
          ap suc (counted ∙ length-pointers_of (starts t) (without k (order (starts t) (places p))))

      pub enough_by_count : ltb n (place_count p) ≡ enough_places (starts t) p k
      unfolding enough_places
      enough_by_count = ap (λ m. leb m (place_count p)) others_counted

      pub place_left : enough_places (starts t) p k ≡ true → n < place_count p
      unfolding enough_places
      place_left enough =
          rw (← others_counted) at
          (leb-true (length (k ∷ without k (order (starts t) (places p)))) (place_count p) enough)

    pub enough_by_others : (n : ℕ) → n ≡ length (without k (order_by t p))
        → ltb n (place_count p) ≡ enough_places (starts t) p k
    enough_by_others n counted =
        enough_by_count n (counted ∙ sym (length-pointers_of (starts t) (without k (order_by t p))))

-- an order at the front of a row
pub front_of_row : (o row after : List ℕ) (len : ℕ) → len ≡ length o → after ≡ o ++ drop (length o) row
    → take len after ≡ o
front_of_row o row after len el ea = rw (el, ea) (take-append_seam o (drop (length o) row))
