-- What was put into a buffer ends inside it. Assumes nothing.
use mathlib.Core.Path.{◌≡◌}
use mathlib.Core.List.{List}
use Prim.Native.Nat.{ℕ, ◌≤◌}
use lib.ListN.{length, take}
use Rattle.text.specs.Put.{Put}
use Rattle.text.proofs.Puts.{put_inside}

pub with_inside : {out after text : List ℕ} {end : ℕ}
    → Put out 0 text after end
    → Put out 0 text after end × ((end ≤ length after) × (end ≡ length (take end after)))
with_inside p = (p, put_inside p)
