-- Refusal 15, in plain words.
--
-- It is due where every place is live, no two places name the same slot, and the slot to be enabled is not among them,
-- and nowhere else: the block then has a place for each slot of its order and none for one more, and a slot must be
-- disabled first. A slot that is first already and a block with a free place are never refused. Assumes nothing.
use mathlib.Core.Path.{◌≡◌, refl, sym, ap, ◌∙◌}
use mathlib.Core.Bool.{Bool, true, false, ◌||◌}
use mathlib.Core.List.{List, [], ◌∷◌, ◌++◌}
use Rattle.std.specs.Prelude.{Option, None, Some}
use Prim.Native.Nat.{ℕ, zero, suc, ◌≤◌, ◌<◌}
use native.Mathlib.Omega.{arith}
use lib.Dec.{eqb}
use borrow.Author.Tests.{eqb-true, leb-false, le-leb, lt-leb}
use lib.ListN.{length, drop, length-append}
use Rattle.rules.specs.Lists.{member, without, any}
use Rattle.rules.specs.Pointers.{place_offset, place_count, places, judged, is_erased, slot_given, gives, add_last, order}
use Rattle.rules.specs.Commands.{below, free_place, is_first, enough_places}
use Rattle.rules.specs.declared.Place.{Place}
use Rattle.rules.specs.declared.Place.TheVariants.{Erased, Spent, Live, PartWritten, Stray}
use Rattle.rules.proofs.Lists.Tests.{by_cases, clash}
use Rattle.rules.proofs.Lists.Words.{length-values}
use Rattle.rules.proofs.Order.Ordering.{slot_named, erased_names_none}
use Rattle.rules.proofs.Order.Clearing.{without_absent}
use Rattle.rules.proofs.Order.OnceEach.{order-length, without-length}

-- ---- which slots an order has

member_appended : (j i : ℕ) (o : List ℕ) → member j (o ++ (i ∷ [])) ≡ eqb j i || member j o
unfolding member
member_appended j i [] = refl
member_appended j i (x ∷ o) =
    by_cases (eqb j x)
    (λ t. by_cases (eqb j i) (λ u. rw (t, u)) (λ u. rw (t, u)))
    (λ t. rw (t, member_appended j i o))

-- the slot is one that a place gives
abbrev given_by : ℕ → Option ℕ → Bool
given_by j None = false
given_by j (Some i) = eqb j i

member_added : (j : ℕ) (x : Option ℕ) (o : List ℕ) → member j (add_last x o) ≡ given_by j x || member j o
unfolding add_last
member_added j None o = refl
member_added j (Some i) o =
    by_cases (member i o)
    (λ t. by_cases (eqb j i)
    (λ u. rw (t, u) (ap (λ (y : ℕ). member y o) (eqb-true j i u) ∙ t))
    (λ u. rw (t, u)))
    (λ t. rw t (member_appended j i o))

gives_given : (j : ℕ) (p : Place) → given_by j (slot_given p) ≡ gives j p
unfolding gives slot_given
gives_given j Erased = refl
gives_given j Spent = refl
gives_given j (Live s) = refl
gives_given j PartWritten = refl
gives_given j (Stray v) = refl

-- some of these places names the slot
abbrev pub named_in : List ℕ → ℕ → List ℕ → Bool
named_in starts j vs = any (λ v. gives j (judged starts v)) vs

pub order_names : (starts : List ℕ) (j : ℕ) (vs : List ℕ) → member j (order starts vs) ≡ named_in starts j vs
unfolding order member any
order_names starts j [] = refl
order_names starts j (v ∷ vs) =
    member_added j (slot_named starts v) (order starts vs) ∙ rw (gives_given j (judged starts v), order_names starts j vs)

-- ---- an order as long as there are places

-- every place is live, and no two name the same slot
abbrev pub EachItsOwn : List ℕ → List ℕ → Type 0
EachItsOwn starts [] = Unit {0}
EachItsOwn starts (v ∷ vs) =
    ((j : ℕ) × (slot_named starts v ≡ Some j) × (named_in starts j vs ≡ false)) × EachItsOwn starts vs

full_order : (starts vs : List ℕ) → length vs ≤ length (order starts vs) → EachItsOwn starts vs
unfolding order
full_order starts [] h = tt
full_order starts (v ∷ vs) h = split (slot_named starts v) refl h (full_order starts vs)
  where
    split : (x : Option ℕ)
        → slot_named starts v ≡ x
        → suc (length vs) ≤ length (add_last x (order starts vs))
        → (length vs ≤ length (order starts vs) → EachItsOwn starts vs)
        → EachItsOwn starts (v ∷ vs)
    split None e l higher = absurd (unfold add_last in omega (arith, order-length starts vs))
    split (Some j) e l higher = unfold add_last in
        by_cases (member j (order starts vs))
        (λ t. absurd (let m = rw t at l in omega (arith, order-length starts vs)))
        (λ t. (
          (j, e, sym (order_names starts j vs) ∙ t),
          higher (let m = rw (t, length-append (order starts vs) (j ∷ [])) at l in omega arith),
        ))

own_order : (starts vs : List ℕ) → EachItsOwn starts vs → length (order starts vs) ≡ length vs
unfolding order add_last
own_order starts [] h = refl
own_order starts (v ∷ vs) ((j, e, new), h) =
    rw (e, order_names starts j vs, new, length-append (order starts vs) (j ∷ []), own_order starts vs h) (omega arith)

without-member : (k : ℕ) (o : List ℕ) → member k o ≡ true → length (without k o) < length o
unfolding member without
without-member k [] t = absurd (clash false t refl)
without-member k (x ∷ o) t =
    by_cases (eqb k x)
    (λ u. rw u (omega (arith, without-length k o)))
    (λ u. let later = rw u at t in rw u (omega (arith, without-member k o later)))

first_member : (k : ℕ) (o : List ℕ) → is_first k o ≡ true → member k o ≡ true
unfolding is_first member
first_member k [] t = absurd (clash false t refl)
first_member k (x ∷ o) t = rw t

-- no more slots than places below the free one
order_in_used : (starts vs : List ℕ) → length (order starts vs) ≤ free_place starts vs
unfolding order free_place
order_in_used starts [] = omega arith
order_in_used starts (v ∷ vs) =
    by_cases (is_erased (judged starts v))
    (λ t. rw (t, erased_names_none starts v t) (erased (free_place starts vs) (order_in_used starts vs)))
    (λ t. rw t (used (free_place starts vs) (slot_named starts v) (order_in_used starts vs)))
  where
    erased : (n : ℕ)
        → length (order starts vs) ≤ n
        → length (add_last None (order starts vs)) ≤ below true n
    erased zero h = unfold add_last below in h
    erased (suc n) h = unfold add_last below in omega arith

    one_more : (x : Option ℕ) → length (add_last x (order starts vs)) ≤ suc (length (order starts vs))
    one_more None = unfold add_last in omega arith
    one_more (Some j) = unfold add_last in by_cases (member j (order starts vs))
        (λ t. rw t (omega arith))
        (λ t. rw (t, length-append (order starts vs) (j ∷ [])) (omega arith))

    used : (n : ℕ) (x : Option ℕ)
        → length (order starts vs) ≤ n
        → length (add_last x (order starts vs)) ≤ below false n
    used zero x h = unfold below in omega (arith, one_more x)
    used (suc n) x h = unfold below in omega (arith, one_more x)

-- ---- the refusal

module _ (starts p : List ℕ) (k : ℕ) where
  abbrev old : List ℕ
  old = order starts (places p)

  as_many : length (places p) ≡ place_count p
  unfolding places
  as_many = length-values (place_count p) (drop (place_offset p) p)

  -- where refusal 15 is due
  pub no_room : enough_places starts p k ≡ false → EachItsOwn starts (places p) × (named_in starts k (places p) ≡ false)
  unfolding enough_places
  no_room f =
      let long = leb-false (length (k ∷ without k old)) (place_count p) f in (
        full_order starts (places p) (omega (arith, long, as_many, without-length k old)),
        by_cases (member k old)
            (λ t. absurd (omega (arith, long, as_many, without-member k old t, order-length starts (places p))))
            (λ t. sym (order_names starts k (places p)) ∙ t),
      )

  -- and it is due wherever that is so
  pub room_for_none : EachItsOwn starts (places p) → named_in starts k (places p) ≡ false → enough_places starts p k ≡ false
  unfolding enough_places
  room_for_none own absent =
      rw (without_absent k old (order_names starts k (places p) ∙ absent), own_order starts (places p) own, as_many)
      (lt-leb (suc (place_count p)) (place_count p) (omega arith))

  -- a slot that is first already
  pub first_fits : is_first k old ≡ true → enough_places starts p k ≡ true
  unfolding enough_places
  first_fits t =
      le-leb (length (k ∷ without k old)) (place_count p)
      (omega (arith, without-member k old (first_member k old t), order-length starts (places p), as_many))

  -- a block with a free place
  pub free_fits : free_place starts (places p) < place_count p → enough_places starts p k ≡ true
  unfolding enough_places
  free_fits free =
      le-leb (length (k ∷ without k old)) (place_count p)
      (omega (arith, free, without-length k old, order_in_used starts (places p)))
