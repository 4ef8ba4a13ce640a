-- The places of one slot cleared to 0 in an image, lowest first, cut anywhere and done. Assumes nothing.
use mathlib.Core.Path.{◌≡◌, refl, sym, ap, ◌∙◌}
use mathlib.Core.Bool.{true, false, cond}
use mathlib.Core.Logic.{◌⊎◌, inl, inr}
use mathlib.Core.List.{List, [], ◌∷◌, map}
use Prim.Native.Nat.{ℕ, zero, suc, ◌+◌, ◌*◌, ◌≤◌, ◌<◌}
use native.Mathlib.Nat.{le_of_suc-le-suc, not-suc-le-zero, add-zero}
use native.Mathlib.Omega.{arith}
use lib.Bits.{bit_and, and_zero_r}
use lib.ListN.{length, get_or}
use Rattle.rules.specs.Bytes.{Bytes, block_size, bytes_of}
use Rattle.rules.specs.Pointers.{judged, gives}
use Rattle.rules.specs.declared.Step.{Step}
use Rattle.rules.specs.Steps.{steps}
use Rattle.rules.specs.Commands.{into_place, into_places, giving, half_cleared_names}
use Rattle.rules.proofs.Lists.Tests.{by_cases}
use Rattle.rules.proofs.Steps.Programming.{steps_append}
use Rattle.rules.proofs.Steps.Cutting.{Cut, cut_all, cut_append}
use Rattle.rules.proofs.Steps.Frame.{Only, Range, only_none, only_then, only_wider}
use Rattle.rules.proofs.Order.Ordering.{giving_names, zero_names_none}
use Rattle.rules.proofs.Order.Clearing.{Clearing, Cleared, none_cleared, named_starts}
use Rattle.rules.proofs.Table.SlotStarts.{SlotStarts}
use Rattle.rules.proofs.Lists.Words.{number_same, length-bytes_of, bytes_of_zero}
use Rattle.rules.proofs.Pointers.Placing.{place_start, AllBelow, value_in, value_kept, part_placed, into_place_cut, into_place_done, part_only, part_byte}
use Rattle.rules.proofs.Pointers.HalfCleared.{Harmless, half_cleared_harmless}

pub giving_below : (count : ℕ) (starts : List ℕ) (k i : ℕ) (vs : List ℕ)
    → i + length vs ≤ count
    → AllBelow count (giving starts k i vs)
unfolding giving
giving_below count starts k i [] h = tt
giving_below count starts k i (v ∷ vs) h =
    by_cases (gives k (judged starts v))
    (λ t. rw t (omega arith, giving_below count starts k (suc i) vs (omega arith)))
    (λ f. rw f (giving_below count starts k (suc i) vs (omega arith)))

-- ---- what places hold, from one of them on

abbrev pub Holding : ℕ → ℕ → List ℕ → ℕ → List ℕ → Type 0
Holding c offset img i vs = (j : ℕ) → j < length vs → value_in c offset img (i + j) ≡ get_or vs j 0

one_up : (i j : ℕ) → i + suc j ≡ suc i + j
one_up i j = omega arith

module _ (c offset : ℕ) (img : List ℕ) (i v : ℕ) (vs : List ℕ) where
  holding_first : Holding c offset img i (v ∷ vs) → value_in c offset img i ≡ v
  holding_first h = ap (value_in c offset img) (sym (add-zero i)) ∙ h 0 (omega arith)

  holding_rest : Holding c offset img i (v ∷ vs) → Holding c offset img (suc i) vs
  holding_rest h j l = ap (value_in c offset img) (sym (one_up i j)) ∙ h (suc j) (omega arith)

  holding_both : value_in c offset img i ≡ v → Holding c offset img (suc i) vs → Holding c offset img i (v ∷ vs)
  holding_both e h zero l = ap (value_in c offset img) (add-zero i) ∙ e
  holding_both e h (suc j) l = ap (value_in c offset img) (one_up i j) ∙ h j (le_of_suc-le-suc l)

-- the places from i on hold these values, to the last place of a block in an image
pub record HoldingToEnd (c offset count i : ℕ) (vs img : List ℕ) : Type 0 where
  pub bytes : Bytes img
  pub fits : c + block_size ≤ length img
  pub to_end : i + length vs ≡ count
  pub held : Holding c offset img i vs

-- ---- clearing them

module _ (g c offset count : ℕ) (room : offset + 8 * count ≤ block_size) (starts : List ℕ) (right : SlotStarts starts)
    (k : ℕ) (hk : k < length starts) (allowed : half_cleared_names starts (get_or starts k 0) ≡ false) where
  abbrev pub clears : ℕ → List ℕ → List Step
  clears i vs = into_places c offset (bytes_of 8 0) (giving starts k i vs)

  abbrev Before : ℕ → List ℕ → List ℕ → Type 0
  Before i vs img = HoldingToEnd c offset count i vs img

  abbrev AtOrAbove : ℕ → List ℕ → ℕ → Type 0
  AtOrAbove i vs = Range (place_start c offset i) (8 * length vs)

  -- from place i on, some of the lowest places that held vs are cleared
  abbrev pub ClearedIn : ℕ → List ℕ → List ℕ → Type 0
  ClearedIn i vs img' =
      (ws : List ℕ) × (length ws ≡ length vs) × Holding c offset img' i ws × Cleared starts k vs ws

  one_more_cleared : (i v w : ℕ) (vs img' : List ℕ)
      → value_in c offset img' i ≡ w
      → Clearing starts k v w
      → ClearedIn (suc i) vs img'
      → ClearedIn i (v ∷ vs) img'
  one_more_cleared i v w vs img' e m (ws, l, h, r) =
      (w ∷ ws, ap suc l, holding_both c offset img' i w ws e h, inr (w, ws, refl, m, r))

  -- the first n bytes of a place cleared
  abbrev zeroed : ℕ → ℕ → List ℕ → List ℕ
  zeroed i n img = part_placed c offset count room g (bytes_of 8 0) (length-bytes_of 8 0) i n img

  zeroed_only : (i n : ℕ) (img : List ℕ) → n ≤ 8 → Only (Range (place_start c offset i) n) img (zeroed i n img)
  zeroed_only i n img h = part_only c offset count room g (bytes_of 8 0) (length-bytes_of 8 0) i n img h

  zeroed_byte : (i n : ℕ) (img : List ℕ)
      → n ≤ 8
      → i < count
      → c + block_size ≤ length img
      → (j : ℕ)
      → j < n
      → get_or (zeroed i n img) (place_start c offset i + j) 0 ≡ 0
  zeroed_byte i n img h hi hc j hj =
      part_byte c offset count room g (bytes_of 8 0) (length-bytes_of 8 0) i n img j hi hc h hj
      ∙ ap (bit_and (get_or img (place_start c offset i + j) 0)) (bytes_of_zero 8 j)
      ∙ and_zero_r (get_or img (place_start c offset i + j) 0)

  zeroed_value : (i : ℕ) (img : List ℕ)
      → i < count
      → c + block_size ≤ length img
      → value_in c offset (zeroed i 8 img) i ≡ 0
  zeroed_value i img hi hc =
      number_same 8 (λ j. get_or (zeroed i 8 img) (place_start c offset i + j) 0) (λ j. 0)
      (λ j hj. zeroed_byte i 8 img (omega arith) hi hc j hj)

  -- the places above keep their values
  zeroed_above : (i n v : ℕ) (vs img : List ℕ)
      → n ≤ 8
      → Holding c offset img i (v ∷ vs)
      → Holding c offset (zeroed i n img) (suc i) vs
  zeroed_above i n v vs img h e j hj =
      value_kept (Range (place_start c offset i) n) c offset img (zeroed i n img) (suc i + j) (zeroed_only i n img h)
      (λ x r s. omega arith)
      ∙ holding_rest c offset img i v vs e j hj

  -- and so does the place below those that are cleared
  below_kept : (i : ℕ) (vs img img' : List ℕ)
      → Only (AtOrAbove (suc i) vs) img img'
      → value_in c offset img' i ≡ value_in c offset img i
  below_kept i vs img img' o =
      value_kept (AtOrAbove (suc i) vs) c offset img img' i o (λ x r s. omega arith)

  -- a place that gives the slot, with its first n bytes cleared
  place_cleared : (v i : ℕ) (vs img : List ℕ)
      → Before i (v ∷ vs) img
      → gives k (judged starts v) ≡ true
      → (n : ℕ)
      → n ≤ 8
      → ClearedIn i (v ∷ vs) (zeroed i n img)
  place_cleared v i vs img b t n h =
      split (half_cleared_harmless starts right k hk allowed n
      (λ j. get_or img (place_start c offset i + j) 0)
      (λ j. get_or (zeroed i n img) (place_start c offset i + j) 0)
      (λ j. b.bytes (place_start c offset i + j))
      (holding_first c offset img i v vs b.held ∙ sym is_start)
      (record {
        zeros = λ j hj. zeroed_byte i n img h (omega (arith, b.to_end)) b.fits j hj;
        others = λ j hj. (zeroed_only i n img h).elsewhere (place_start c offset i + j) (λ r. omega arith);
      }))
    where
      is_start : get_or starts k 0 ≡ v
      is_start = (named_starts starts v k (giving_names starts k v t)).1

      above : Holding c offset (zeroed i n img) (suc i) vs
      above = zeroed_above i n v vs img h b.held

      split : Harmless starts (get_or starts k 0) (value_in c offset (zeroed i n img) i)
          → ClearedIn i (v ∷ vs) (zeroed i n img)
      split (inl w) =
          (v ∷ vs, refl, holding_both c offset (zeroed i n img) i v vs (w ∙ is_start) above, inl refl)
      split (inr w) =
          one_more_cleared i v (value_in c offset (zeroed i n img) i) vs (zeroed i n img) refl (inr (t, w))
          (vs, refl, above, none_cleared starts k vs)

  before_rest : (i v : ℕ) (vs img : List ℕ) → Before i (v ∷ vs) img → Before (suc i) vs img
  before_rest i v vs img b = record {
    bytes = b.bytes;
    fits = b.fits;
    to_end = omega (arith, b.to_end);
    held = holding_rest c offset img i v vs b.held;
  }

  before_zeroed : (i v : ℕ) (vs img : List ℕ) → Before i (v ∷ vs) img → Before (suc i) vs (zeroed i 8 img)
  before_zeroed i v vs img b = record {
    bytes = (zeroed_only i 8 img (omega arith)).still_bytes b.bytes;
    fits = rw (zeroed_only i 8 img (omega arith)).same_length b.fits;
    to_end = omega (arith, b.to_end);
    held = zeroed_above i 8 v vs img (omega arith) b.held;
  }

  abbrev CutLeaves : ℕ → List ℕ → List ℕ → List ℕ → Type 0
  CutLeaves i vs img img' = Only (AtOrAbove i vs) img img' × ClearedIn i vs img'

  passed_over : (i v : ℕ) (vs img img' : List ℕ)
      → Before i (v ∷ vs) img
      → gives k (judged starts v) ≡ false
      → CutLeaves (suc i) vs img img'
      → CutLeaves i (v ∷ vs) img img'
  passed_over i v vs img img' b f (o, r) = (
    only_wider (λ x s. (omega arith, omega arith)) o,
    one_more_cleared i v v vs img'
        (below_kept i vs img img' o ∙ holding_first c offset img i v vs b.held) (inl (f, refl)) r,
  )

  cleared_then : (i v : ℕ) (vs img img' : List ℕ)
      → Before i (v ∷ vs) img
      → gives k (judged starts v) ≡ true
      → CutLeaves (suc i) vs (zeroed i 8 img) img'
      → CutLeaves i (v ∷ vs) img img'
  cleared_then i v vs img img' b t (o, r) = (
    only_then (only_wider (λ x s. (omega arith, omega arith)) (zeroed_only i 8 img (omega arith)))
        (only_wider (λ x s. (omega arith, omega arith)) o),
    one_more_cleared i v 0 vs img'
        (below_kept i vs (zeroed i 8 img) img' o ∙ zeroed_value i img (omega (arith, b.to_end)) b.fits)
        (inr (t, zero_names_none starts)) r,
  )

  pub clears_cut : (vs : List ℕ) (i : ℕ) (img : List ℕ)
      → Before i vs img
      → (img' : List ℕ)
      → Cut g (clears i vs) img img'
      → Only (AtOrAbove i vs) img img' × ClearedIn i vs img'
  unfolding giving into_places
  clears_cut [] i img b img' d =
      (only_none img img' d, ([], refl, (λ j h. absurd (not-suc-le-zero h)), refl))
  clears_cut (v ∷ vs) i img b img' d = by_cases (gives k (judged starts v))
      (λ t. here t (cut_append g (into_place c offset (bytes_of 8 0) i) (clears (suc i) vs) img img' (rw t at d))
      (clears_cut vs (suc i) (zeroed i 8 img) (before_zeroed i v vs img b) img'))
      (λ f. passed_over i v vs img img' b f (clears_cut vs (suc i) img (before_rest i v vs img b) img' (rw f at d)))
    where
      here : gives k (judged starts v) ≡ true
          → Cut g (into_place c offset (bytes_of 8 0) i) img img'
          ⊎ Cut g (clears (suc i) vs) (steps g (into_place c offset (bytes_of 8 0) i) img) img'
          → (Cut g (clears (suc i) vs) (zeroed i 8 img) img' → CutLeaves (suc i) vs (zeroed i 8 img) img')
          → CutLeaves i (v ∷ vs) img img'
      here t (inl e) rest =
          let (n, h, w) = into_place_cut c offset count room g (bytes_of 8 0) (length-bytes_of 8 0) i img img' e in
          rw w (
            only_wider (λ x r. (omega arith, omega arith)) (zeroed_only i n img h),
            place_cleared v i vs img b t n h,
          )
      here t (inr e) rest =
          cleared_then i v vs img img' b t
          (rest (rw (into_place_done c offset count room g (bytes_of 8 0) (length-bytes_of 8 0) i img) at e))

  -- each place that gave the slot holds 0, the others hold what they held
  abbrev pub cleared_value : ℕ → ℕ
  cleared_value v = cond (gives k (judged starts v)) 0 v

  pub clears_done : (vs : List ℕ) (i : ℕ) (img : List ℕ)
      → Before i vs img
      → Holding c offset (steps g (clears i vs) img) i (map cleared_value vs)
  unfolding giving into_places
  clears_done [] i img b = λ j h. absurd (not-suc-le-zero h)
  clears_done (v ∷ vs) i img b = by_cases (gives k (judged starts v))
      (λ t. rw (
        t,
        steps_append g (into_place c offset (bytes_of 8 0) i) (clears (suc i) vs) img,
        into_place_done c offset count room g (bytes_of 8 0) (length-bytes_of 8 0) i img,
      )
      (joined (zeroed i 8 img) (before_zeroed i v vs img b)
      (rw t (zeroed_value i img (omega (arith, b.to_end)) b.fits))
      (clears_done vs (suc i) (zeroed i 8 img) (before_zeroed i v vs img b))))
      (λ f. rw f
      (joined img (before_rest i v vs img b)
      (rw f (holding_first c offset img i v vs b.held))
      (clears_done vs (suc i) img (before_rest i v vs img b))))
    where
      after : List ℕ → List ℕ
      after x = steps g (clears (suc i) vs) x

      joined : (x : List ℕ)
          → Before (suc i) vs x
          → value_in c offset x i ≡ cleared_value v
          → Holding c offset (after x) (suc i) (map cleared_value vs)
          → Holding c offset (after x) i (map cleared_value (v ∷ vs))
      joined x bx e h =
          let o = (clears_cut vs (suc i) x bx (after x) (cut_all g (clears (suc i) vs) x)).0 in
          holding_both c offset (after x) i (cleared_value v) (map cleared_value vs)
          (below_kept i vs x (after x) o ∙ e) h
