-- The two blocks that a view names can be read as the commands read them, and so can the first 4,096 bytes of a slot.
-- Assumes nothing.
use mathlib.Core.Path.{◌≡◌}
use mathlib.Core.List.{List}
use Prim.Native.Nat.{ℕ, ◌+◌, ◌≤◌, ◌<◌}
use native.Mathlib.Omega.{arith}
use lib.ListN.{length, get_or}
use Rattle.rules.specs.Bytes.{block, block_size}
use Rattle.rules.specs.Answers.{given}
use Rattle.rules.specs.declared.Setting.{Setting}
use Rattle.rules.specs.Table.{entries, slots, starts}
use Rattle.rules.specs.Copies.{view}
use Rattle.rules.specs.declared.View.{View}
use Rattle.rules.proofs.Table.Standing.{standing}
use Rattle.rules.proofs.Table.SlotStarts.{length_fits, slot_begins_inside}
use Rattle.rules.proofs.Claim.Viewing.{viewed, table_stands_there}
use Rattle.views.specs.Located.{Located}

module _ {img : List ℕ} {v : View} (l : Located img v) where
  -- addresses of a job's pair are stored in four bytes
  pub tables_fit : (v.spt0 ≤ 0xFFFFFFFF) × (v.spt1 ≤ 0xFFFFFFFF)
  tables_fit = (omega (arith, l.spt0_inside, l.short), omega (arith, l.spt1_inside, l.short))

  pub pointers_fit : (v.cpb0 ≤ 0xFFFFFFFF) × (v.cpb1 ≤ 0xFFFFFFFF)
  pointers_fit = (omega (arith, l.cpb0_inside, l.short), omega (arith, l.cpb1_inside, l.short))

-- a slot of the table read
pub slot_inside : (s : Setting) (img : List ℕ) (v : View) → view s img ≡ given v
    → (k : ℕ)
    → k < length (slots (entries (block img v.table)))
    → get_or (starts (block img v.table)) k 0 + block_size ≤ length img
slot_inside s img v h =
    let w = viewed s img v h in
    let t = block img v.table in
    slot_begins_inside s (length img) t (length_fits (length img) w.refusal1)
    (standing s (length img) t (table_stands_there s img v w))
