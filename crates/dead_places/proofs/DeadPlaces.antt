-- The dead places of a pointer block, walked from place 0 up. Assumes nothing.
use mathlib.Core.Path.{◌≡◌}
use mathlib.Core.Bool.{Bool, true, false}
use mathlib.Core.List.{List}
use Prim.Native.Nat.{ℕ, ◌+◌, ◌≤◌, ◌<◌}
use lib.ListN.{drop}
use Rattle.rules.specs.Lists.{any}
use Rattle.rules.specs.Pointers.{place_count, places, judged, is_dead}
use Rattle.places.specs.Inner.Values.{place_value}
use Rattle.places.proofs.Values.{place_turn, place_over}

-- a place from place k on is dead
abbrev pub dead_from : List ℕ → List ℕ → ℕ → Bool
dead_from starts p k = any (λ v. is_dead (judged starts v)) (drop k (places p))

module _ (starts p : List ℕ) (k : ℕ) where
  pub dead_here : k < place_count p → is_dead (judged starts (place_value p k)) ≡ true → dead_from starts p k ≡ true
  unfolding any
  dead_here within t = rw (place_turn p k within, t)

  pub dead_above : k < place_count p → is_dead (judged starts (place_value p k)) ≡ false
      → dead_from starts p k ≡ dead_from starts p (k + 1)
  unfolding any
  dead_above within f = rw (place_turn p k within, f)

  pub none_dead : place_count p ≤ k → dead_from starts p k ≡ false
  unfolding any
  none_dead over = rw (place_over p k over)
