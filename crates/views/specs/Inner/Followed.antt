-- What the code has of the two table copies, and of a table that it follows to the pointer blocks. Assumes nothing.
use Rattle.std.specs.Prelude.{List, ℕ, ◌+◌, ◌≤◌, ◌<◌, length}
use Rattle.rules.specs.Bytes.{block, block_size}
use Rattle.rules.specs.declared.Setting.{Setting}
use Rattle.rules.specs.Table.{entry_count, cpb0_of, cpb1_of}
use Rattle.walks.specs.Entries.{most_entries}

-- both table copies are inside the image, and the granule is not 0
pub record BothInside (s : Setting) (img : List ℕ) : Type 0 where
  pub spt0_inside : s.spt0 + block_size ≤ length img
  pub spt1_inside : s.spt1 + block_size ≤ length img
  pub some_granule : 0 < s.granule

-- the table at an address and its two pointer blocks are inside the image, and its count is right
pub record Followed (img : List ℕ) (at : ℕ) : Type 0 where
  pub table_inside : at + block_size ≤ length img
  pub count_right : entry_count (block img at) ≤ most_entries
  pub cpb0_inside : cpb0_of (block img at) + block_size ≤ length img
  pub cpb1_inside : cpb1_of (block img at) + block_size ≤ length img
