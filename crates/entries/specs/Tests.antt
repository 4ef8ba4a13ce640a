-- Searches of entries: by a test that is lent, and what is found. Assumes nothing.
use Rattle.std.specs.Prelude.{◌≡◌, Bool, List, ℕ, ◌<◌, Option, IfSome, IfNone, length, get_or}
use Rattle.std.specs.Fn.{FnReturnsAt, Shared}
use Rattle.std.specs.Borrow.{Bor}
use Rattle.rules.specs.Table.{Entry, no_entry}
use Rattle.rules.specs.declared.EntryNo.{EntryNo}

-- the test answers at each of these entries what p says of it
pub record Decides {F : Type 0} (g : Shared F (Bor Entry × Unit {0}) Bool) (test : F) (p : Entry → Bool) (es : List Entry) : Type 0 where
  pub gives : (i : ℕ) (r : Bool) → i < length es → FnReturnsAt g test (get_or es i no_entry) r → r ≡ p (get_or es i no_entry)

-- the entry of number i; none where i is the number of entries
pub record Found (es : List Entry) (i : ℕ) (result : Option EntryNo) : Type 0 where
  pub some : IfSome result (λ e. (e.0 ≡ i) × (i < length es))
  pub none : IfNone result (i ≡ length es)
