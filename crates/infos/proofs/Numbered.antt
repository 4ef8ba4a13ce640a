-- An entry of a table by its number, as the table counts it. Assumes nothing.
use mathlib.Core.Path.{◌≡◌, sym, ◌∙◌}
use mathlib.Core.Bool.{true, false}
use mathlib.Core.List.{List}
use Prim.Native.Nat.{ℕ, ◌≤◌, ◌<◌}
use native.Mathlib.Omega.{arith}
use borrow.Author.Tests.{lt-ltb, le-ltb}
use lib.ListN.{length}
use Rattle.rules.specs.Table.{entry_count, entries}
use Rattle.rules.proofs.Table.Standing.{length-entries}
use Rattle.infos.specs.Entries.{entry_there}

-- `n` is what the code has of the count
module _ (t : List ℕ) (i : ℕ) {n : ℕ} (is_count : n ≡ entry_count t) where
  counted : length (entries t) ≡ n
  counted = length-entries t ∙ sym is_count

  pub not_there : n ≤ i → entry_there (entries t) i ≡ false
  unfolding entry_there
  not_there h = le-ltb i (length (entries t)) (omega (arith, counted))

  pub there : i < n → entry_there (entries t) i ≡ true
  unfolding entry_there
  there h = lt-ltb i (length (entries t)) (omega (arith, counted))
