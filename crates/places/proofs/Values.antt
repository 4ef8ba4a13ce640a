-- The places of a pointer block by number, and where they lie in a block that stands. Assumes nothing.
use mathlib.Core.Path.{◌≡◌, refl, sym, ap, ◌∙◌}
use mathlib.Core.List.{List, [], ◌∷◌}
use Prim.Native.Nat.{ℕ, ◌+◌, ◌-◌, ◌*◌, ◌≤◌, ◌<◌}
use native.Mathlib.Omega.{arith}
use lib.ListN.{length, get_or, take, drop, drop_of_length-le}
use lib.Seq.{get_or-drop}
use Rattle.rules.specs.Bytes.{little_endian, field, block_size}
use Rattle.rules.specs.Pointers.{place_offset, place_count, values, places, all_ones}
use Rattle.rules.proofs.Lists.Words.{length-values}
use Rattle.rules.proofs.Pointers.PointerHeader.{places_fit}
use Rattle.walks.proofs.Rows.{rows_turn}
use Rattle.walks.proofs.Last.{last_within}
use Rattle.places.specs.Inner.StandingPointers.{StandingPointers}
use Rattle.places.specs.Inner.FreePlace.{free_from}
use Rattle.places.specs.Inner.Values.{place_value}

-- ---- by number

module _ (p : List ℕ) (k : ℕ) where
  -- one turn of a walk over the places
  pub place_turn : k < place_count p → drop k (places p) ≡ place_value p k ∷ drop (k + 1) (places p)
  unfolding places place_value values field
  place_turn h =
      rows_turn 8 (λ bs. little_endian (take 8 bs)) values (λ n bs. refl) (place_count p) k (place_offset p) p h

  -- the same on the way down
  pub place_down : 0 < k → k ≤ place_count p → drop (k - 1) (places p) ≡ place_value p (k - 1) ∷ drop k (places p)
  unfolding places place_value values field
  place_down some h =
      let e : k - 1 + 1 ≡ k = omega arith in
      rw e at
      (rows_turn 8 (λ bs. little_endian (take 8 bs)) values (λ n bs. refl) (place_count p) (k - 1) (place_offset p) p
      (omega arith))

  -- and its end
  pub place_over : place_count p ≤ k → drop k (places p) ≡ []
  unfolding places
  place_over h =
      drop_of_length-le (values (place_count p) (drop (place_offset p) p)) {i = k} (rw length-values h)

-- a place of the list of places, whatever stands for one that is not there
pub value_at : (p : List ℕ) (k d : ℕ) → k < place_count p → get_or (places p) k d ≡ place_value p k
value_at p k d h =
    let e : k + 0 ≡ k = omega arith in
    ap (λ (i : ℕ). get_or (places p) i d) (sym e) ∙ sym (get_or-drop k (places p) 0 d) ∙ rw (place_turn p k h)

pub length_places : (p : List ℕ) → length (places p) ≡ place_count p
unfolding places
length_places p = length-values (place_count p) (drop (place_offset p) p)

-- the free place is a place, or the count
pub free_within : (p : List ℕ) → free_from p ≤ place_count p
unfolding free_from
free_within p = omega (arith, last_within all_ones (places p), length_places p)

-- ---- in a block that stands

pub few_places : {p : List ℕ} → StandingPointers p → place_count p ≤ 508
few_places {p} h = (places_fit p h.stands).at_most_508

pub places_inside : (p : List ℕ) → StandingPointers p → place_offset p + 8 * place_count p ≤ block_size
places_inside p h = (places_fit p h.stands).in_block

pub place_inside : (p : List ℕ) (k : ℕ) → StandingPointers p → k < place_count p
    → place_offset p + 8 * k + 8 ≤ block_size
place_inside p k h within = omega (arith, (places_fit p h.stands).in_block)
