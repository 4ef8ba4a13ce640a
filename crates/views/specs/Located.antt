-- What a view that was given says of where the blocks are. Assumes nothing.
use Rattle.std.specs.Prelude.{◌≡◌, true, List, ℕ, ◌+◌, ◌≤◌, length}
use Rattle.rules.specs.Bytes.{block, block_size}
use Rattle.rules.specs.Table.{entry_count}
use Rattle.rules.specs.Pointers.{pointers_stand}
use Rattle.rules.specs.declared.View.{View}
use Rattle.walks.specs.Entries.{most_entries}

-- every block is inside the image, and the two that are read can be walked
pub record Located (img : List ℕ) (v : View) : Type 0 where
  pub spt0_inside : v.spt0 + block_size ≤ length img
  pub spt1_inside : v.spt1 + block_size ≤ length img
  pub cpb0_inside : v.cpb0 + block_size ≤ length img
  pub cpb1_inside : v.cpb1 + block_size ≤ length img
  pub table_inside : v.table + block_size ≤ length img
  pub pointers_inside : v.pointers + block_size ≤ length img
  pub count_right : entry_count (block img v.table) ≤ most_entries
  pub stand : pointers_stand (block img v.pointers) ≡ true
  pub short : length img ≤ 0x10000000
