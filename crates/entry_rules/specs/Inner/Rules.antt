-- What a test of two entries tells; the entries before one. Assumes nothing.
use Rattle.std.specs.Prelude.{◌≡◌, Bool, List, [], ◌∷◌, ℕ, zero, suc, ◌<◌, length, get_or}
use Rattle.std.specs.Fn.{FnReturnsAtPair, Shared}
use Rattle.std.specs.Borrow.{Bor}
use Rattle.rules.specs.Table.{Entry, no_entry}

-- the test answers at each two of these entries what p says of them
pub record DecidesPairs {F : Type 0} (g : Shared F (Bor Entry × (Bor Entry × Unit {0})) Bool) (test : F) (p : Entry → Entry → Bool) (es : List Entry) : Type 0 where
  pub gives : (i j : ℕ) (r : Bool) → i < length es → j < length es
      → FnReturnsAtPair g test (get_or es i no_entry) (get_or es j no_entry) r
      → r ≡ p (get_or es i no_entry) (get_or es j no_entry)

-- the entries of lower numbers, the nearest first
unfoldable pub entries_before : List Entry → ℕ → List Entry
entries_before es zero = []
entries_before es (suc k) = get_or es k no_entry ∷ entries_before es k
