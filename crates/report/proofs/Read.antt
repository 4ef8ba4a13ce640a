-- The two blocks that are read, as code has them by where things are. Assumes nothing.
use mathlib.Core.Path.{◌≡◌, sym, ap, ◌∙◌}
use mathlib.Core.List.{List, ◌++◌}
use Prim.Native.Nat.{ℕ, ◌≤◌}
use lib.ListN.{length, take, drop}
use lib.Seq.{take_at}
use Rattle.rules.specs.Bytes.{block}
use Rattle.rules.specs.Copies.{order_by, boot_order}
use Rattle.rules.specs.declared.View.{View}
use Rattle.walks.specs.Entries.{most_entries}
use Rattle.views.specs.Located.{Located}
use Rattle.report.proofs.Fits.{order_few}

module _ {img : List ℕ} {v : View} (l : Located img v) {t p : List ℕ} (is_table : t ≡ block img v.table)
    (is_pointers : p ≡ block img v.pointers) where
  -- a row with room for every entry has room for the order
  pub order_has_room : length (order_by t p) ≤ most_entries
  unfolding boot_order
  order_has_room = rw (is_table, is_pointers) (order_few l)

  -- the front of a row that the order was written into
  pub written_order : (row : List ℕ) {after : List ℕ} {n : ℕ}
      → n ≡ length (order_by t p)
      → after ≡ order_by t p ++ drop (length (order_by t p)) row
      → take n after ≡ order_by t p
  written_order row {after} {n} e w =
      ap (take n) w ∙ take_at (order_by t p) (drop (length (order_by t p)) row) n (sym e)
