-- A pointer block made up for an order: it stands as the old one did, and reads as that order. Assumes nothing.
use mathlib.Core.Path.{◌≡◌, refl, sym, ap, ap₂, ◌∙◌, subst}
use mathlib.Core.Bool.{true, false}
use mathlib.Core.List.{List, [], ◌∷◌, ◌++◌, map, reverse, reverse_aux, append_assoc, append-nil}
use Prim.Native.Nat.{ℕ, zero, suc, ◌+◌, ◌*◌, ◌-◌, ◌≤◌, ◌<◌}
use native.Mathlib.Decide.{dec_lt}
use native.Mathlib.Omega.{arith}
use lib.Dec.{eqb}
use borrow.Author.Tests.{eq-eqb, ne_eqb}
use lib.ListN.{length, get_or, take, drop, replicate, length-append, length-drop, length-replicate, length-map, length-reverse, get_or-eq_default}
use lib.Seq.{take_at, drop_at, take-append-le, length-take-le, append_snoc, take-take}
use Rattle.rules.specs.Lists.{member}
use Rattle.rules.specs.Bytes.{Bytes, block_size, bytes_of, little_endian, erased_byte}
use Rattle.rules.specs.Numbers.{longest}
use Rattle.rules.specs.Pointers.{place_offset, place_count, pointers_stand, values, places, erased_value, add_last, order}
use Rattle.rules.specs.Commands.{pointer_bytes, filled, pointers_of}
use Rattle.rules.proofs.Lists.Tests.{by_cases, clash}
use Rattle.rules.proofs.Lists.ByteLists.{bytes_append, bytes_take, bytes_drop, bytes_replicate}
use Rattle.rules.proofs.Table.SlotStarts.{SlotStarts}
use Rattle.rules.proofs.Lists.Words.{length-bytes_of, bytes_of_bytes, little_endian_of_bytes}
use Rattle.rules.proofs.Pointers.PointerHeader.{header_size, SameHeader, PlacesFit, stand_alike, places_alike}
use Rattle.rules.proofs.Pointers.HalfCleared.{high_names_none}
use Rattle.rules.proofs.Order.OnceEach.{Once, absent_of_appended}

-- ---- the order of the pointers made up for an order

pub length-pointers_of : (starts o : List ℕ) → length (pointers_of starts o) ≡ length o
unfolding pointers_of
length-pointers_of starts o = length-map (reverse o) (λ k. get_or starts k 0) ∙ length-reverse o

module _ (starts : List ℕ) (right : SlotStarts starts) where
  abbrev start_of : ℕ → ℕ
  start_of k = get_or starts k 0

  member_first : (x : ℕ) (o : List ℕ) → member x (x ∷ o) ≡ true
  unfolding member
  member_first x o = rw (eq-eqb x x refl)

  member_later : (y x : ℕ) (o : List ℕ) → member y o ≡ true → member y (x ∷ o) ≡ true
  unfolding member
  member_later y x o t = by_cases (eqb y x) (λ u. rw u) (λ u. rw u t)

  -- with the pointers of some slots already below, those of the order o put them after it
  order_of_reversed : (rest o below done : List ℕ)
      → order starts (map start_of below ++ rest) ≡ done
      → Once (length starts) o
      → ((x : ℕ) → member x o ≡ true → member x done ≡ false)
      → order starts (map start_of (reverse_aux o below) ++ rest) ≡ done ++ o
  unfolding order add_last
  order_of_reversed rest [] below done e h f = e ∙ sym (append-nil done)
  order_of_reversed rest (x ∷ o) below done e (m, l, h) f =
      order_of_reversed rest o (x ∷ below) (done ++ (x ∷ [])) (rw (right.own x l, e, f x (member_first x o))) h fresh
      ∙ append_snoc done x o
    where
      fresh : (y : ℕ) → member y o ≡ true → member y (done ++ (x ∷ [])) ≡ false
      fresh y t =
          absent_of_appended y x done (f y (member_later y x o t))
          (ne_eqb y x (λ e. clash (member x o) (subst (λ (z : ℕ). member z o ≡ true) e t) m))

  order_of_erased : (n : ℕ) → order starts (replicate n erased_value) ≡ []
  unfolding order add_last
  order_of_erased zero = refl
  order_of_erased (suc n) =
      rw (high_names_none starts right erased_value (omega arith), order_of_erased n)

  order_of_pointers : (n : ℕ) (o : List ℕ)
      → Once (length starts) o
      → order starts (pointers_of starts o ++ replicate n erased_value) ≡ o
  unfolding pointers_of member
  order_of_pointers n o h = order_of_reversed (replicate n erased_value) o [] [] (order_of_erased n) h (λ x t. refl)

  start_small : (k : ℕ) → get_or starts k 0 < longest
  start_small k = split (dec_lt k (length starts))
    where
      split : Dec (k < length starts) → get_or starts k 0 < longest
      split (yes l) = right.inside k l
      split (no l) = rw (get_or-eq_default starts 0 {n = k} (omega arith)) (omega arith)

  pointers_small : (o : List ℕ) (k : ℕ) → get_or (map start_of o) k 0 < longest
  pointers_small [] k = omega arith
  pointers_small (x ∷ o) zero = start_small x
  pointers_small (x ∷ o) (suc k) = pointers_small o k

-- ---- the bytes of pointers

pub length-pointer_bytes : (vs : List ℕ) → length (pointer_bytes vs) ≡ 8 * length vs
unfolding pointer_bytes
length-pointer_bytes [] = refl
length-pointer_bytes (v ∷ vs) =
    rw (length-append (bytes_of 8 v) (pointer_bytes vs), length-bytes_of 8 v, length-pointer_bytes vs) (omega arith)

bytes_of_pointers : (vs : List ℕ) → Bytes (pointer_bytes vs)
unfolding pointer_bytes
bytes_of_pointers [] i = omega arith
bytes_of_pointers (v ∷ vs) i =
    bytes_append (bytes_of 8 v) (pointer_bytes vs) (bytes_of_bytes 8 v) (bytes_of_pointers vs) i

values_of_pointers : (n : ℕ) (vs rest : List ℕ)
    → ((k : ℕ) → get_or vs k 0 < longest)
    → values (length vs + n) (pointer_bytes vs ++ rest) ≡ vs ++ values n rest
unfolding pointer_bytes values
values_of_pointers n [] rest h = ap (λ (m : ℕ). values m rest) (nothing_more n)
  where
    nothing_more : (n : ℕ) → 0 + n ≡ n
    nothing_more n = omega arith
values_of_pointers n (v ∷ vs) rest h =
    ap (λ (m : ℕ). values m ((bytes_of 8 v ++ pointer_bytes vs) ++ rest)) (one_up (length vs))
    ∙ (ap₂ {C = List ℕ} (λ x y. x ∷ y)
    (ap (λ (l : List ℕ). little_endian (take 8 l)) (append_assoc (bytes_of 8 v) (pointer_bytes vs) rest)
    ∙ ap little_endian (take_at (bytes_of 8 v) (pointer_bytes vs ++ rest) 8 (length-bytes_of 8 v))
    ∙ little_endian_of_bytes v (omega (arith, h 0)))
    (ap (λ (l : List ℕ). values (length vs + n) (drop 8 l)) (append_assoc (bytes_of 8 v) (pointer_bytes vs) rest)
    ∙ ap (values (length vs + n)) (drop_at (bytes_of 8 v) (pointer_bytes vs ++ rest) 8 (length-bytes_of 8 v))
    ∙ values_of_pointers n vs rest (λ k. h (suc k))))
  where
    one_up : (m : ℕ) → suc m + n ≡ suc (m + n)
    one_up m = omega arith

values_of_erased : (n : ℕ) (rest : List ℕ)
    → values n (replicate (8 * n) erased_byte ++ rest) ≡ replicate n erased_value
unfolding values little_endian
values_of_erased zero rest = refl
values_of_erased (suc n) rest =
    ap (λ (m : ℕ). values (suc n) (replicate m erased_byte ++ rest)) (eight_more n)
    ∙ ap {B = List ℕ} (λ r. erased_value ∷ r) (values_of_erased n rest)
  where
    eight_more : (n : ℕ) → 8 * suc n ≡ suc (suc (suc (suc (suc (suc (suc (suc (8 * n))))))))
    eight_more n = omega arith

-- ---- the block

module _ (p : List ℕ) (lp : length p ≡ block_size) (fit : PlacesFit p)
    (vs : List ℕ) (few : length vs ≤ place_count p) where
  -- the bytes before the places, of erased places, and after the places
  abbrev front : List ℕ
  front = take (place_offset p) p

  abbrev free : List ℕ
  free = replicate (8 * (place_count p - length vs)) erased_byte

  abbrev end : List ℕ
  end = drop (place_offset p + 8 * place_count p) p

  length_front : length front ≡ place_offset p
  length_front = length-take-le (place_offset p) p (omega (arith, fit.in_block))

  pub length-filled : length (filled p vs) ≡ block_size
  unfolding filled
  length-filled =
      let in_block = fit.in_block in
      rw (
        length-append front (pointer_bytes vs ++ (free ++ end)),
        length-append (pointer_bytes vs) (free ++ end),
        length-append free end,
        length-pointer_bytes vs,
        length-replicate {A = ℕ} (8 * (place_count p - length vs)) erased_byte,
        length-drop (place_offset p + 8 * place_count p) p,
        length_front,
      )
      (omega arith)

  pub bytes_filled : Bytes p → Bytes (filled p vs)
  unfolding filled
  bytes_filled h =
      bytes_append front (pointer_bytes vs ++ (free ++ end)) (bytes_take (place_offset p) p h)
      (bytes_append (pointer_bytes vs) (free ++ end) (bytes_of_pointers vs)
      (bytes_append free end (bytes_replicate (8 * (place_count p - length vs)) erased_byte (omega arith))
      (bytes_drop (place_offset p + 8 * place_count p) p h)))

  filled_header : SameHeader p (filled p vs)
  unfolding filled
  filled_header =
      let after_header = fit.after_header in
      take-append-le header_size front (pointer_bytes vs ++ (free ++ end)) (rw length_front after_header)
      ∙ take-take header_size (place_offset p) p after_header

  pub filled_stands : pointers_stand (filled p vs) ≡ pointers_stand p
  filled_stands = stand_alike p (filled p vs) filled_header

  pub filled-places : ((k : ℕ) → get_or vs k 0 < longest)
      → places (filled p vs) ≡ vs ++ replicate (place_count p - length vs) erased_value
  filled-places h = places_alike p (filled p vs) filled_header ∙ unfold filled in
      (ap (values (place_count p)) (drop_at front (pointer_bytes vs ++ (free ++ end)) (place_offset p) length_front)
      ∙ ap (λ (n : ℕ). values n (pointer_bytes vs ++ (free ++ end))) all_places
      ∙ values_of_pointers (place_count p - length vs) vs (free ++ end) h
      ∙ ap (λ (l : List ℕ). vs ++ l) (values_of_erased (place_count p - length vs) end))
    where
      all_places : place_count p ≡ length vs + (place_count p - length vs)
      all_places = omega arith

module _ (starts : List ℕ) (right : SlotStarts starts) (p : List ℕ) (lp : length p ≡ block_size) (fit : PlacesFit p)
    (o : List ℕ) where
  -- the block reads as the order
  pub filled-order : (few : length o ≤ place_count p)
      → Once (length starts) o
      → order starts (places (filled p (pointers_of starts o))) ≡ o
  filled-order few once =
      ap (order starts)
      (filled-places p lp fit (pointers_of starts o) (rw (length-pointers_of starts o) few)
      (λ k. unfold pointers_of in pointers_small starts right (reverse o) k))
      ∙ order_of_pointers starts right (place_count p - length (pointers_of starts o)) o once
