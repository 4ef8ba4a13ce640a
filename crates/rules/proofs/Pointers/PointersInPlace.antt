-- A pair of pointer blocks given another order in place: a pointer appended, or the places of a slot cleared. Assumes
-- nothing.
use mathlib.Core.Path.{◌≡◌, refl, sym, ap, ◌∙◌}
use mathlib.Core.Bool.{true, false}
use mathlib.Core.Logic.{◌⊎◌, inl, inr}
use mathlib.Core.List.{List, [], ◌∷◌, ◌++◌, map}
use Prim.Native.Nat.{ℕ, zero, suc, ◌+◌, ◌*◌, ◌≤◌, ◌<◌}
use native.Mathlib.Nat.{le_of_suc-le-suc, not-suc-le-zero, zero-add}
use native.Mathlib.Omega.{arith}
use borrow.Author.Tests.{eqb-true}
use lib.ListN.{length, get_or, set, drop, length-map}
use Rattle.rules.specs.Lists.{without}
use Rattle.rules.specs.Bytes.{Bytes, block, block_size, bytes_of, erased_byte}
use Rattle.rules.specs.Numbers.{longest}
use Rattle.rules.specs.declared.Step.{Step}
use Rattle.rules.specs.Pointers.{place_offset, place_count, values, places, erased_value, all_ones, judged, is_erased, order, pointers_stand}
use Rattle.rules.specs.Steps.{steps}
use Rattle.rules.specs.Commands.{free_place, into_place, append_steps, giving, into_places, clear_steps, half_cleared_names}
use Rattle.rules.proofs.Steps.Cutting.{Cut, cut_all}
use Rattle.rules.proofs.Steps.Frame.{Only, Range, StepsWithin, within_append, within_programs, within_wider}
use Rattle.rules.proofs.Copies.CopyRead.{first_read}
use Rattle.rules.proofs.Order.Ordering.{erased_by_value, below_is_zero, below_is_suc, order_enabled}
use Rattle.rules.proofs.Order.Clearing.{order_with_same_name, order_cleared, order_zeroed}
use Rattle.rules.proofs.Lists.Words.{length-values, length-bytes_of, all_ones_bytes}
use Rattle.rules.proofs.Pointers.PointerHeader.{SameHeader, stand_alike, places_alike}
use Rattle.rules.proofs.Pointers.Placing.{place_start, AllBelow, value_in, values_in, value_read, values_are, pointer_placed, pointer_cut}
use Rattle.rules.proofs.Pointers.HalfCleared.{high_names_none}
use Rattle.rules.proofs.Pointers.PlacesCleared.{giving_below, Holding, HoldingToEnd, cleared_value, clears_cut, clears_done}
use Rattle.rules.proofs.Pointers.InPlace.{GoesByBlock, AfterHeader, Copy0Cut, into_place_by_block, into_places_by_block, in_place_cut, in_place_equal, copy0_last}
use Rattle.rules.proofs.Copies.PairCuts.{Two}
use Rattle.rules.proofs.Pointers.PointerPair.{AgreedPointers, both, old_order, fit, OrderAtCut, Reorders}

-- ---- the lowest free place is erased

erased_is_all_ones : (starts : List ℕ) (v : ℕ) → is_erased (judged starts v) ≡ true → v ≡ erased_value
unfolding all_ones
erased_is_all_ones starts v h = eqb-true v erased_value (sym (erased_by_value starts v) ∙ h)

free_place_erased : (starts vs : List ℕ) (u : ℕ) → free_place starts vs ≡ u → u < length vs → get_or vs u 0 ≡ erased_value
unfolding free_place
free_place_erased starts [] u h l = absurd (not-suc-le-zero l)
free_place_erased starts (v ∷ vs) zero h l =
    erased_is_all_ones starts v (below_is_zero (is_erased (judged starts v)) (free_place starts vs) h).0
free_place_erased starts (v ∷ vs) (suc u) h l =
    let higher = below_is_suc (is_erased (judged starts v)) (free_place starts vs) u h in
    free_place_erased starts vs u higher (le_of_suc-le-suc l)

module _ (agreed : AgreedPointers) where
  open agreed
      use {granule, c0, c1, holds_block, apart, starts, right, img, inside0, inside1, bytes, p, copy0, copy1, stands}

  abbrev offset : ℕ
  offset = place_offset p

  abbrev count : ℕ
  count = place_count p

  abbrev vs : List ℕ
  vs = places p

  room : offset + 8 * count ≤ block_size
  room = (fit agreed).in_block

  pub count_of_places : length vs ≡ count
  unfolding places
  count_of_places = length-values count (drop offset p)

  -- the values of copy 0
  abbrev values0 : List ℕ → List ℕ
  values0 x = values_in c0 offset count x

  -- copy 0 is as it was, and only copy 1 changed
  record Copy0Whole (mid : List ℕ) : Type 0 where
    changes : Only (Range c1 granule) img mid
    whole : block mid c0 ≡ p

  -- ---- the same steps on copy 1, then on copy 0

  module _ (listed : ℕ → List Step) (within : (c n : ℕ) → StepsWithin granule n (AfterHeader c) (listed c))
      (by_block : GoesByBlock granule listed) (new : List ℕ)
      (cut0 : (mid img' : List ℕ) → Copy0Whole mid → Cut granule (listed c0) mid img'
      → (order starts (values0 img') ≡ old_order agreed) ⊎ (order starts (values0 img') ≡ new))
      (end0 : (mid : List ℕ) → Copy0Whole mid → order starts (values0 (steps granule (listed c0) mid)) ≡ new) where
    in_place_at_cut : (img' : List ℕ) → Cut granule (listed c1 ++ listed c0) img img' → OrderAtCut agreed new img'
    in_place_at_cut img' d =
        let (o, h, w) = in_place_cut (both agreed) listed within by_block img img' d in
        let header : SameHeader p (block img' c0) = rw copy0 at h in
        record {
          changes = o;
          read = block img' c0;
          reads = first_read pointers_stand (block img' c0) (block img' c1)
              (stand_alike p (block img' c0) header ∙ stands);
          old_or_new = rw (places_alike p (block img' c0) header) (split w);
        }
      where
        split : (block img' c0 ≡ block img c0) ⊎ Copy0Cut (both agreed) listed within by_block img img'
            → (order starts (values0 img') ≡ old_order agreed) ⊎ (order starts (values0 img') ≡ new)
        split (inl e) = inl (unfold places in rw (e ∙ copy0))
        split (inr (mid, o, e, d)) = cut0 mid img' (record { changes = o; whole = e ∙ copy0 }) d

    in_place_reorders : Reorders agreed new (listed c1 ++ listed c0)
    in_place_reorders =
        let end : List ℕ = steps granule (listed c1 ++ listed c0) img in
        let (o, h, w) = in_place_cut (both agreed) listed within by_block img end
        (cut_all granule (listed c1 ++ listed c0) img) in
        let header : SameHeader p (block end c0) = rw copy0 at h in
        let (mid, only, e, last) = copy0_last (both agreed) listed within by_block img in
        record {
          within = within_append granule (length img) (Two granule c0 c1) (listed c1) (listed c0)
              (within_wider granule (length img) (AfterHeader c1) (Two granule c0 c1) (listed c1)
              (λ i q. inr (omega arith, omega arith)) (within c1 (length img)))
              (within_wider granule (length img) (AfterHeader c0) (Two granule c0 c1) (listed c0)
              (λ i q. inl (omega arith, omega arith)) (within c0 (length img)));
          at_cut = in_place_at_cut;
          at_end = record {
            equal = in_place_equal (both agreed) listed within by_block img (copy0 ∙ sym copy1);
            still_stands = stand_alike p (block end c0) header ∙ stands;
            reordered = ap (order starts) (places_alike p (block end c0) header ∙ ap values0 last)
                ∙ end0 mid (record { changes = only; whole = e ∙ copy0 });
          };
        }

  -- ---- bytes into places

  into_place_within : (bs : List ℕ) (k : ℕ)
      → length bs ≡ 8
      → k < count
      → (c n : ℕ)
      → StepsWithin granule n (AfterHeader c) (into_place c offset bs k)
  unfolding into_place
  into_place_within bs k l hk c n =
      let after_header = (fit agreed).after_header in
      let in_block = (fit agreed).in_block in
      within_programs granule n (AfterHeader c) (c + (offset + 8 * k)) bs (λ i r. (omega arith, omega arith))

  into_places_within : (bs ks : List ℕ)
      → length bs ≡ 8
      → AllBelow count ks
      → (c n : ℕ)
      → StepsWithin granule n (AfterHeader c) (into_places c offset bs ks)
  unfolding into_places
  into_places_within bs [] l below c n = tt
  into_places_within bs (k ∷ ks) l (hk, below) c n =
      within_append granule n (AfterHeader c) (into_place c offset bs k) (into_places c offset bs ks)
      (into_place_within bs k l hk c n) (into_places_within bs ks l below c n)

  fits0 : (mid : List ℕ) → Copy0Whole mid → c0 + block_size ≤ length mid
  fits0 mid m = rw m.changes.same_length (omega arith)

  -- the values of a copy of the block
  value_of_copy : (c : ℕ) (x : List ℕ)
      → block x c ≡ p
      → c + block_size ≤ length x
      → (k : ℕ)
      → k < count
      → value_in c offset x k ≡ get_or vs k 0
  unfolding places
  value_of_copy c x copy fits k hk =
      sym (value_read c offset count room x k fits hk)
      ∙ ap (λ (b : List ℕ). get_or (values count (drop offset b)) k 0) copy

  values_were : (mid : List ℕ) → Copy0Whole mid → values0 mid ≡ vs
  unfolding places
  values_were mid m = rw m.whole

  -- ---- a pointer appended

  abbrev u : ℕ
  u = free_place starts vs

  module _ (free : u < count) where
    was_erased : get_or vs u 0 ≡ erased_value
    was_erased = free_place_erased starts vs u refl (omega (arith, count_of_places))

    -- the free place of a copy of the block is erased
    pub free_place_blank : (c : ℕ) (x : List ℕ)
        → block x c ≡ p
        → c + block_size ≤ length x
        → Bytes x
        → (j : ℕ)
        → j < 8
        → get_or x (place_start c offset u + j) 0 ≡ erased_byte
    free_place_blank c x copy fits small =
        all_ones_bytes (λ j. get_or x (place_start c offset u + j) 0) (λ j. small (place_start c offset u + j))
        (value_of_copy c x copy fits u free ∙ was_erased)

  module _ (k : ℕ) (hk : k < length starts) (free : u < count) where
    abbrev a : ℕ
    a = get_or starts k 0

    blank : (mid : List ℕ) → Copy0Whole mid → (j : ℕ) → j < 8 → get_or mid (place_start c0 offset u + j) 0 ≡ erased_byte
    blank mid m = free_place_blank free c0 mid m.whole (fits0 mid m) (m.changes.still_bytes bytes)

    appended_order : order starts (set vs u a) ≡ k ∷ without k (old_order agreed)
    appended_order = order_enabled starts vs u a k refl (omega (arith, count_of_places)) (right.own k hk)

    half_appended_order : (v : ℕ) → longest ≤ v → order starts (set vs u v) ≡ old_order agreed
    half_appended_order v h =
        order_with_same_name starts vs u v
        (high_names_none starts right v h
        ∙ sym (high_names_none starts right (get_or vs u 0) (rw (was_erased free) (omega arith))))

    pub appending_reorders : Reorders agreed (k ∷ without k (old_order agreed)) (append_steps c0 c1 offset u a)
    unfolding append_steps
    appending_reorders =
        in_place_reorders (λ c. into_place c offset (bytes_of 8 a) u)
        (into_place_within (bytes_of 8 a) u (length-bytes_of 8 a) free)
        (into_place_by_block granule offset (bytes_of 8 a) u)
        (k ∷ without k (old_order agreed))
        (λ mid img' m d. split mid img' m
        (pointer_cut c0 offset count room granule mid (fits0 mid m) u free (blank mid m) a (right.inside k hk) img' d))
        (λ mid m.
        ap (order starts)
        (pointer_placed c0 offset count room granule mid (fits0 mid m) u free (blank mid m) a (right.inside k hk)
        ∙ ap (λ (l : List ℕ). set l u a) (values_were mid m))
        ∙ appended_order)
      where
        split : (mid img' : List ℕ) → Copy0Whole mid
            → (values0 img' ≡ set (values0 mid) u a)
            ⊎ ((v : ℕ) × (longest ≤ v) × (values0 img' ≡ set (values0 mid) u v))
            → (order starts (values0 img') ≡ old_order agreed)
            ⊎ (order starts (values0 img') ≡ k ∷ without k (old_order agreed))
        split mid img' m (inl e) = inr (rw (e, values_were mid m) appended_order)
        split mid img' m (inr (v, h, e)) = inl (rw (e, values_were mid m) (half_appended_order v h))

  -- ---- the places of a slot cleared

  module _ (k : ℕ) (hk : k < length starts) (allowed : half_cleared_names starts (get_or starts k 0) ≡ false) where
    held : (mid : List ℕ) → Copy0Whole mid → HoldingToEnd c0 offset count 0 vs mid
    held mid m = record {
      bytes = m.changes.still_bytes bytes;
      fits = fits0 mid m;
      to_end = zero-add (length vs) ∙ count_of_places;
      held = λ j l.
          ap (value_in c0 offset mid) (zero-add j)
          ∙ value_of_copy c0 mid m.whole (fits0 mid m) j (omega (arith, count_of_places));
    }

    -- the values that the places hold from place 0 on
    values_from_0 : (x ws : List ℕ)
        → c0 + block_size ≤ length x
        → length ws ≡ length vs
        → Holding c0 offset x 0 ws
        → values0 x ≡ ws
    values_from_0 x ws h l held =
        values_are c0 offset count room x ws h (l ∙ count_of_places)
        (λ j hj. ap (value_in c0 offset x) (sym (zero-add j)) ∙ held j (omega (arith, count_of_places)))

    abbrev clears0 : List Step
    clears0 = into_places c0 offset (bytes_of 8 0) (giving starts k 0 vs)

    cleared_at_cut : (mid img' : List ℕ) → Copy0Whole mid → Cut granule clears0 mid img'
        → (order starts (values0 img') ≡ old_order agreed)
        ⊎ (order starts (values0 img') ≡ without k (old_order agreed))
    cleared_at_cut mid img' m d =
        let (o, (ws, l, h, c)) =
        clears_cut granule c0 offset count room starts right k hk allowed vs 0 mid (held mid m) img' d in
        rw (values_from_0 img' ws (rw o.same_length (fits0 mid m)) l h) (order_cleared starts k vs ws c)

    cleared_at_end : (mid : List ℕ) → Copy0Whole mid
        → order starts (values0 (steps granule clears0 mid)) ≡ without k (old_order agreed)
    cleared_at_end mid m =
        let end : List ℕ = steps granule clears0 mid in
        let (o, r) = clears_cut granule c0 offset count room starts right k hk allowed vs 0 mid (held mid m) end
        (cut_all granule clears0 mid) in
        let zeroed = clears_done granule c0 offset count room starts right k hk allowed vs 0 mid (held mid m) in
        let ws : List ℕ = map (cleared_value granule c0 offset count room starts right k hk allowed) vs in
        ap (order starts) (values_from_0 end ws (rw o.same_length (fits0 mid m)) (length-map vs _) zeroed)
        ∙ order_zeroed starts k vs

    pub clearing_reorders :
        Reorders agreed (without k (old_order agreed)) (clear_steps c0 c1 offset (giving starts k 0 vs))
    unfolding clear_steps
    clearing_reorders =
        in_place_reorders (λ c. into_places c offset (bytes_of 8 0) (giving starts k 0 vs))
        (into_places_within (bytes_of 8 0) (giving starts k 0 vs) (length-bytes_of 8 0)
        (giving_below count starts k 0 vs (omega (arith, count_of_places))))
        (into_places_by_block granule offset (bytes_of 8 0) (giving starts k 0 vs))
        (without k (old_order agreed)) cleared_at_cut cleared_at_end
