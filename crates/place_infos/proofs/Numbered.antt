-- A place of a pointer block by its number, as code reads it. Assumes nothing.
use mathlib.Core.Path.{◌≡◌}
use mathlib.Core.List.{List}
use Prim.Native.Nat.{ℕ, ◌<◌}
use Rattle.rules.specs.Pointers.{place_count, erased_value}
use Rattle.places.specs.Inner.Values.{place_value}
use Rattle.places.proofs.Values.{value_at}
use Rattle.place_infos.specs.Places.{value_of}

pub value_found : (p : List ℕ) (k : ℕ) → k < place_count p → value_of p k ≡ place_value p k
value_found p k h = value_at p k erased_value h
