-- The jobs of enable and disable, case by case. Assumes nothing.
use mathlib.Core.Path.{◌≡◌}
use mathlib.Core.Bool.{true, false}
use mathlib.Core.List.{List, [], ◌∷◌}
use Prim.Native.Nat.{ℕ, ◌≤◌, ◌<◌}
use borrow.Author.Tests.{lt-ltb, le-ltb}
use lib.ListN.{get_or}
use Rattle.rules.specs.Lists.{without}
use Rattle.rules.specs.Bytes.{bytes_of}
use Rattle.rules.specs.Pointers.{place_offset, place_count, places, order}
use Rattle.rules.specs.Commands.{filled, pointers_of, free_place, is_first, giving, half_cleared_names}
use Rattle.blocks.specs.Made.{no_steps, pair_rewritten, place_list, places_written}
use Rattle.blocks.specs.declared.PlaceList.{PlaceList}
use Rattle.drafts.specs.JobFor.{reorder_job, in_places_job, enable_job, disable_job}

module _ (len g c0 c1 : ℕ) (starts p : List ℕ) (k : ℕ) where
  -- ---- enable

  pub enable_none : is_first k (order starts (places p)) ≡ true → no_steps len g ≡ enable_job len g c0 c1 starts p k
  unfolding enable_job
  enable_none t = rw t

  module _ (f : is_first k (order starts (places p)) ≡ false) (u a : ℕ) (eu : u ≡ free_place starts (places p))
      (ea : a ≡ get_or starts k 0) where
    pub enable_place : (offset : ℕ) (found : PlaceList) (w : List ℕ)
        → u < place_count p
        → offset ≡ place_offset p
        → found ≡ place_list (u ∷ [])
        → w ≡ bytes_of 8 a
        → places_written len g offset c1 c0 found w ≡ enable_job len g c0 c1 starts p k
    unfolding enable_job in_places_job
    enable_place offset found w free eo ef ew = rw (f, ← eu, lt-ltb u (place_count p) free, ← ea, eo, ef, ew)

    pub enable_rewrite : (b : List ℕ)
        → place_count p ≤ u
        → b ≡ filled p (pointers_of starts (k ∷ without k (order starts (places p))))
        → pair_rewritten len g c0 c1 b ≡ enable_job len g c0 c1 starts p k
    unfolding enable_job reorder_job
    enable_rewrite b full eb = rw (f, ← eu, le-ltb u (place_count p) full, eb)

  -- ---- disable

  module _ (a : ℕ) (ea : a ≡ get_or starts k 0) where
    pub disable_rewrite : (b : List ℕ)
        → half_cleared_names starts a ≡ true
        → b ≡ filled p (pointers_of starts (without k (order starts (places p))))
        → pair_rewritten len g c0 c1 b ≡ disable_job len g c0 c1 starts p k
    unfolding disable_job reorder_job
    disable_rewrite b t eb = rw (← ea, t, eb)

    pub disable_in_place : (offset : ℕ) (found : PlaceList) (w : List ℕ)
        → half_cleared_names starts a ≡ false
        → offset ≡ place_offset p
        → found ≡ place_list (giving starts k 0 (places p))
        → w ≡ bytes_of 8 0
        → places_written len g offset c1 c0 found w ≡ disable_job len g c0 c1 starts p k
    unfolding disable_job in_places_job
    disable_in_place offset found w f eo ef ew = rw (← ea, f, eo, ef, ew)
