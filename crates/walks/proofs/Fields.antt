-- A field of what is left after some bytes. Assumes nothing.
use mathlib.Core.Path.{◌≡◌}
use mathlib.Core.List.{List}
use Prim.Native.Nat.{ℕ, ◌+◌}
use lib.ListN.{drop}
use lib.Seq.{drop-drop}
use Rattle.rules.specs.Bytes.{field}

pub field-drop : (at n k : ℕ) (bs : List ℕ) → field at n (drop k bs) ≡ field (k + at) n bs
unfolding field
field-drop at n k bs = rw drop-drop
